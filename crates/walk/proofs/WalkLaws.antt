-- The walk back: what a right link leads to, that the bound on the links never ends a walk, what the walk finds, and exactly when it finds nothing. Assumes nothing.
use Prim.Native.Nat.{ℕ, zero, suc, ◌+◌, ◌-◌, ◌≤◌, ◌<◌}
use mathlib.Core.Path.{◌≡◌, refl, ap, ◌∙◌, sym, subst}
use mathlib.Core.Logic.{◌↔◌, ◌⊎◌, inl, inr, ⊎_elim}
use mathlib.Core.Bool.{Bool, true, false, cond, not, ◌&&◌, ◌||◌}
use mathlib.Core.List.{List, [], ◌∷◌}
use Rattle.std.specs.Prelude.{Option, None, Some, Ok, Err}
use Rattle.std.specs.Option.{option_or, option_map, ok_or}
use native.Mathlib.Omega.{arith}
use lib.ListN.{length, get_or}
use lib.IntN.{pos}
use lib.Dec.{ltb, eqb}
use borrow.Author.Tests.{ltb-true, ltb-false, eqb-true}
use Rattle.ground.specs.Entry.{none_link}
use Rattle.ground.specs.Limits.{character_limit, candidate_limit}
use Rattle.ground.specs.Answer.{work_done, refuse}
use Rattle.ground.specs.declared.answer.Refusal.{Refusal}
use Rattle.ground.specs.declared.answer.Refusal.TheVariants.{TooLong, Uneven, TooMany, ShortRow, BrokenLink}
use Rattle.ground.proofs.RowLaws.{in_row, over_length}
use Rattle.walk.specs.WalkBack.{ends_there, link_at, follow, walk_from, walk_back, Outcome, outcome, walk_refused, written_unless, walk_back_alone}
use Rattle.walk.specs.WalkBack.{Follows, starts, goes_on, FollowedLink}
use Rattle.walk.specs.Inner.{linked, Sure}
use Rattle.walk.specs.declared.walk_back.Link.{Link}
use Rattle.walk.specs.declared.walk_back.Link.TheVariants.{ToStart, ToCandidate}

-- What a right link to candidate k says: it is k + 1, there is such a candidate, it has start below end, and it ends at the position.
pub record Right (start end : List ℕ) (position link k : ℕ) : Type 0 where
  pub number : link ≡ suc k
  pub there : k < length start
  pub below : get_or start k 0 < get_or end k 0
  pub ends : get_or end k 0 ≡ position

module _ (start end : List ℕ) where
  -- what a link that is not to entry 0 says, by its three tests
  pub by_tests : (position link k : ℕ) (there below ends : Bool) → link ≡ suc k
      → ltb k (length start) ≡ there → ltb (get_or start k 0) (get_or end k 0) ≡ below → eqb (get_or end k 0) position ≡ ends
      → cond (there && below && ends) (Some (ToCandidate k)) None ≡ link_at start end position link
  by_tests position link k there below ends e p q r = rw (e, p, q, r)

  -- a link to the start mark is right at position 0 alone
  at_start : (position link : ℕ) → link_at start end position link ≡ Some ToStart → position ≡ 0
  at_start position zero e = go (eqb position 0) refl e
    where
      go : (t : Bool) → eqb position 0 ≡ t → cond t (Some ToStart) None ≡ Some ToStart → position ≡ 0
      go true t e = eqb-true position 0 t
      go false t e = absurd (let z : ◌≡◌ {A = ℕ} 0 1 = cc in omega arith)
  at_start position (suc k) e = absurd (go (ends_there start end position k) e)
    where
      go : (t : Bool) → cond t (Some (ToCandidate k)) None ≡ Some ToStart → ⊥
      go true e = let z : ◌≡◌ {A = ℕ} 0 1 = cc in omega arith
      go false e = let z : ◌≡◌ {A = ℕ} 0 1 = cc in omega arith

  -- a link that leads to a candidate is a right one
  pub right : (position link k : ℕ) → link_at start end position link ≡ Some (ToCandidate k) → Right start end position link k
  right position zero k e = absurd (go (eqb position 0) e)
    where
      go : (t : Bool) → cond t (Some ToStart) None ≡ Some (ToCandidate k) → ⊥
      go true e = let z : ◌≡◌ {A = ℕ} 0 1 = cc in omega arith
      go false e = let z : ◌≡◌ {A = ℕ} 0 1 = cc in omega arith
  right position (suc j) k e =
      go (ltb j (length start)) refl (ltb (get_or start j 0) (get_or end j 0)) refl (eqb (get_or end j 0) position) refl e
    where
      no : None ≡ Some (ToCandidate k) → ⊥
      no e = let z : ◌≡◌ {A = ℕ} 0 1 = cc in omega arith

      go : (a : Bool) → ltb j (length start) ≡ a → (b : Bool) → ltb (get_or start j 0) (get_or end j 0) ≡ b → (t : Bool) → eqb (get_or end j 0) position ≡ t
          → cond (a && b && t) (Some (ToCandidate j)) None ≡ Some (ToCandidate k) → Right start end position (suc j) k
      go true a true b true t e =
          let same : j ≡ k = cc in
          rw (← same) (record {
            number = refl;
            there = ltb-true j (length start) a;
            below = ltb-true (get_or start j 0) (get_or end j 0) b;
            ends = eqb-true (get_or end j 0) position t;
          })
      go true a true b false t e = absurd (no e)
      go true a false b ends t e = absurd (no e)
      go false a below b ends t e = absurd (no e)

-- Candidates that lead from one position to another: each has start below end, and starts where the one before ends.
pub data Joined (start end : List ℕ) : ℕ → List ℕ → ℕ → Type 0 where
  none_left : {p : ℕ} → Joined start end p [] p
  one_more : {k q : ℕ} {ks : List ℕ} → get_or start k 0 < get_or end k 0 → Joined start end (get_or end k 0) ks q → Joined start end (get_or start k 0) (k ∷ ks) q

module _ (start end left : List ℕ) where
  -- one step of the walk, by what the link says
  pub step : (most position entry : ℕ) (found : List ℕ) (link : Option Link) → link_at start end position (get_or left entry none_link) ≡ link
      → walk_from start end left (suc most) position entry found
      ≡ follow link found (λ (k : ℕ). walk_from start end left most (get_or start k 0) (suc k) (k ∷ found))
  unfolding walk_from
  step most position entry found link e =
      ap (λ (l : Option Link). follow l found (λ (k : ℕ). walk_from start end left most (get_or start k 0) (suc k) (k ∷ found))) e

  -- two bounds above the position give the same walk
  bounds : (more most position entry : ℕ) (found : List ℕ) → position < more → position < most
      → walk_from start end left more position entry found ≡ walk_from start end left most position entry found
  bounds zero most position entry found h l = absurd (omega arith)
  bounds (suc more) zero position entry found h l = absurd (omega arith)
  bounds (suc more) (suc most) position entry found h l =
      go (link_at start end position (get_or left entry none_link)) refl (λ k. bounds more most (get_or start k 0) (suc k) (k ∷ found))
    where
      go : (link : Option Link) → link_at start end position (get_or left entry none_link) ≡ link
          → ((k : ℕ) → get_or start k 0 < more → get_or start k 0 < most
          → walk_from start end left more (get_or start k 0) (suc k) (k ∷ found) ≡ walk_from start end left most (get_or start k 0) (suc k) (k ∷ found))
          → walk_from start end left (suc more) position entry found ≡ walk_from start end left (suc most) position entry found
      go (Some ToStart) e again = step more position entry found (Some ToStart) e ∙ sym (step most position entry found (Some ToStart) e)
      go (Some (ToCandidate k)) e again =
          let r = right start end position (get_or left entry none_link) k e in
          step more position entry found (Some (ToCandidate k)) e
          ∙ again k (omega arith) (omega arith)
          ∙ sym (step most position entry found (Some (ToCandidate k)) e)
      go None e again = step more position entry found None e ∙ sym (step most position entry found None e)

  -- the bound cannot run out: more than position + 1 links change nothing
  pub enough : (more position entry : ℕ) (found : List ℕ) → suc position ≤ more
      → walk_from start end left more position entry found ≡ walk_from start end left (suc position) position entry found
  enough more position entry found h = bounds more (suc position) position entry found h (omega arith)

  -- a step to a candidate, of a walk that has links enough
  pub next : (position entry k : ℕ) (found : List ℕ) → link_at start end position (get_or left entry none_link) ≡ Some (ToCandidate k)
      → walk_from start end left (suc (get_or start k 0)) (get_or start k 0) (suc k) (k ∷ found)
      ≡ walk_from start end left (suc position) position entry found
  next position entry k found e =
      let r = right start end position (get_or left entry none_link) k e in
      sym (step position position entry found (Some (ToCandidate k)) e ∙ enough position (get_or start k 0) (suc k) (k ∷ found) (omega arith))

  -- A walk that comes to the start mark, link by link.
  pub data Walk : ℕ → ℕ → List ℕ → List ℕ → Type 0 where
    arrives : {position entry : ℕ} {found : List ℕ} → link_at start end position (get_or left entry none_link) ≡ Some ToStart → Walk position entry found found
    goes : {position entry k : ℕ} {found all : List ℕ} → link_at start end position (get_or left entry none_link) ≡ Some (ToCandidate k)
        → Walk (get_or start k 0) (suc k) (k ∷ found) all → Walk position entry found all

  -- where candidates are found, there is such a walk
  walk : (most position entry : ℕ) (found all : List ℕ) → walk_from start end left most position entry found ≡ Some all → Walk position entry found all
  unfolding walk_from
  walk zero position entry found all e = absurd (let z : ◌≡◌ {A = ℕ} 0 1 = cc in omega arith)
  walk (suc most) position entry found all e =
      go (link_at start end position (get_or left entry none_link)) refl e (λ k. walk most (get_or start k 0) (suc k) (k ∷ found) all)
    where
      go : (link : Option Link) → link_at start end position (get_or left entry none_link) ≡ link
          → follow link found (λ (k : ℕ). walk_from start end left most (get_or start k 0) (suc k) (k ∷ found)) ≡ Some all
          → ((k : ℕ) → walk_from start end left most (get_or start k 0) (suc k) (k ∷ found) ≡ Some all → Walk (get_or start k 0) (suc k) (k ∷ found) all)
          → Walk position entry found all
      go (Some ToStart) l e again = let same : found ≡ all = cc in rw (← same) (arrives l)
      go (Some (ToCandidate k)) l e again = goes l (again k e)
      go None l e again = absurd (let z : ◌≡◌ {A = ℕ} 0 1 = cc in omega arith)

  walk_of : (n : ℕ) (found : List ℕ) → walk_back start end left n ≡ Some found → Walk n (suc (length start)) [] found
  unfolding walk_back
  walk_of n found e = walk (suc n) n (suc (length start)) [] found e

  -- a walk finds at most one candidate for each position that it comes past
  walk_fits : {position entry : ℕ} {found all : List ℕ} → Walk position entry found all → length all ≤ position + length found
  walk_fits (arrives l) = omega arith
  walk_fits {position} {entry} (goes {k = k} l w) =
      let r = right start end position (get_or left entry none_link) k l in
      omega (arith, walk_fits w)

  -- a walk finds candidates only
  walk_below : {position entry : ℕ} {found all : List ℕ} → Walk position entry found all
      → ((i : ℕ) → i < length found → get_or found i 0 < length start) → (i : ℕ) → i < length all → get_or all i 0 < length start
  walk_below (arrives l) below = below
  walk_below {position} {entry} {found} (goes {k = k} l w) below = walk_below w ahead
    where
      ahead : (i : ℕ) → i < suc (length found) → get_or (k ∷ found) i 0 < length start
      ahead zero h = (right start end position (get_or left entry none_link) k l).there
      ahead (suc i) h = below i (omega arith)

  -- a walk finds candidates that are joined
  walk_joined : {position entry n : ℕ} {found all : List ℕ} → Walk position entry found all → Joined start end position found n → Joined start end 0 all n
  walk_joined {position} {entry} {n} {found} (arrives l) j =
      subst (λ (p : ℕ). Joined start end p found n) (at_start start end position (get_or left entry none_link) l) j
  walk_joined {position} {entry} {n} {found} (goes {k = k} l w) j =
      let r = right start end position (get_or left entry none_link) k l in
      walk_joined w (one_more r.below (subst (λ (p : ℕ). Joined start end p found n) (sym r.ends) j))

  -- a walk's links, followed once more and not tested, give the same candidates
  walk_linked : {position entry : ℕ} {found all : List ℕ} → length start + 2 ≤ length left → entry ≤ length start + 1
      → Walk position entry found all
      → ((i : ℕ) × (length all ≡ i + length found) × Sure left (length start + 1) i entry × (linked left i entry found ≡ all))
  unfolding linked Sure
  walk_linked room h (arrives l) = (0, omega arith, tt, refl)
  walk_linked {position} {entry} {found} room h (goes {k = k} l w) =
      let r = right start end position (get_or left entry none_link) k l in
      let link : get_or left entry 0 ≡ suc k = in_row left entry 0 none_link (omega arith) ∙ r.number in
      let back : get_or left entry 0 - 1 ≡ k = omega arith in
      let f = walk_linked room (omega arith) w in (
        suc f.0,
        omega arith,
        (omega arith, omega arith, omega arith, subst (λ (x : ℕ). Sure left (length start + 1) f.0 x) (sym link) f.2),
        ap (λ (x : ℕ). linked left f.0 x ((get_or left entry 0 - 1) ∷ found)) link
            ∙ ap (λ (x : ℕ). linked left f.0 (suc k) (x ∷ found)) back
            ∙ f.3,
      )

  -- the links of a walk that finds candidates, followed once more: as many as candidates, and they lead to the same
  pub walk_again : (n : ℕ) (found : List ℕ) → length start + 2 ≤ length left → walk_back start end left n ≡ Some found
      → Sure left (length start + 1) (length found) (length start + 1) × (linked left (length found) (length start + 1) [] ≡ found)
  walk_again n found room e =
      let f = walk_linked room (omega arith) (walk_of n found e) in
      let long : f.0 ≡ length found = omega arith in
      let mark : suc (length start) ≡ length start + 1 = omega arith in (
        subst (λ (i : ℕ). Sure left (length start + 1) i (length start + 1)) long (subst (λ (entry : ℕ). Sure left (length start + 1) f.0 entry) mark f.2),
        subst (λ (i : ℕ). linked left i (length start + 1) [] ≡ found) long (subst (λ (entry : ℕ). linked left f.0 entry [] ≡ found) mark f.3),
      )

  -- the list found has at most n words
  pub words_fit : (n : ℕ) (found : List ℕ) → walk_back start end left n ≡ Some found → length found ≤ n
  words_fit n found e = omega (arith, walk_fits (walk_of n found e))

  -- every number found is below c
  pub found_below : (n : ℕ) (found : List ℕ) → walk_back start end left n ≡ Some found → (i : ℕ) → i < length found → get_or found i 0 < length start
  found_below n found e = walk_below (walk_of n found e) (λ i h. absurd (omega arith))

  -- the candidates found lead from 0 to n, each from where the one before ends
  pub found_joined : (n : ℕ) (found : List ℕ) → walk_back start end left n ≡ Some found → Joined start end 0 found n
  found_joined n found e = walk_joined (walk_of n found e) none_left

  -- ---- what a walk follows
  module _ (n : ℕ) where
    -- from a place that it comes to, with links enough, the walk finds what the whole walk does
    same_walk : {position number : ℕ} → Follows start end left n position number
        → ((found : List ℕ) × (walk_from start end left (suc position) position number found ≡ walk_back start end left n))
    unfolding walk_back
    same_walk starts = ([], refl)
    same_walk (goes_on {position} {number} {k} f l) = let (found, e) = same_walk f in (k ∷ found, next position number k found l ∙ e)

    -- so where a followed link is broken there is nothing
    broken : FollowedLink start end left n None → walk_back start end left n ≡ None
    broken (position, number, f, l) = let (found, e) = same_walk f in sym e ∙ step position position number found None l

    -- and where one is to the start mark, a list is found
    whole : FollowedLink start end left n (Some ToStart) → ((found : List ℕ) × (walk_back start end left n ≡ Some found))
    whole (position, number, f, l) = let (found, e) = same_walk f in (found, sym e ∙ step position position number found (Some ToStart) l)

    -- one of the two is followed, for each right link to a candidate leads to a lower position
    one_from : (most position number : ℕ) → position < most → Follows start end left n position number
        → FollowedLink start end left n None ⊎ FollowedLink start end left n (Some ToStart)
    one_from zero position number h f = absurd (omega arith)
    one_from (suc most) position number h f =
        go (link_at start end position (get_or left number none_link)) refl (λ k. one_from most (get_or start k 0) (suc k))
      where
        go : (link : Option Link) → link_at start end position (get_or left number none_link) ≡ link
            → ((k : ℕ) → get_or start k 0 < most → Follows start end left n (get_or start k 0) (suc k)
            → FollowedLink start end left n None ⊎ FollowedLink start end left n (Some ToStart))
            → FollowedLink start end left n None ⊎ FollowedLink start end left n (Some ToStart)
        go (Some ToStart) l again = inr (position, number, f, l)
        go (Some (ToCandidate k)) l again =
            let r = right start end position (get_or left number none_link) k l in
            again k (omega arith) (goes_on f l)
        go None l again = inl (position, number, f, l)

    -- so one of them is, from entry c + 1 on
    one_of_lem : FollowedLink start end left n None ⊎ FollowedLink start end left n (Some ToStart)
    one_of_lem = one_from (suc n) n (suc (length start)) (omega arith) starts

    -- nothing is no list
    not_both : (found : List ℕ) → walk_back start end left n ≡ None → walk_back start end left n ≡ Some found → ⊥
    not_both found e f = let z : ◌≡◌ {A = ℕ} 0 1 = cc in omega arith

    -- The walk finds nothing exactly if a followed link is broken; so the bound never runs out.
    pub broken_exactly : (walk_back start end left n ≡ None) ↔ FollowedLink start end left n None
    broken_exactly = (λ e. ⊎_elim (λ b. b) (λ w. let (found, f) = whole w in absurd (not_both found e f)) one_of_lem, broken)

    -- It finds a list exactly if a followed link is a right one to the start mark.
    pub whole_exactly : ((found : List ℕ) × (walk_back start end left n ≡ Some found)) ↔ FollowedLink start end left n (Some ToStart)
    whole_exactly = (λ (found, e). ⊎_elim (λ b. absurd (not_both found (broken b) e)) (λ w. w) one_of_lem, whole)

-- ---- the public operation

-- where no test refuses, the last one does not
last_passed : (first second third : Option Refusal) (few short : Bool)
    → option_or first (option_or second (option_or third (refuse (few || short) ShortRow))) ≡ None → (few ≡ false) × (short ≡ false)
last_passed None None None false false e = (refl, refl)
last_passed None None None true short e = absurd (let z : ◌≡◌ {A = ℕ} 0 1 = cc in omega arith)
last_passed None None None false true e = absurd (let z : ◌≡◌ {A = ℕ} 0 1 = cc in omega arith)
last_passed (Some a) second third few short e = absurd (let z : ◌≡◌ {A = ℕ} 0 1 = cc in omega arith)
last_passed None (Some a) third few short e = absurd (let z : ◌≡◌ {A = ℕ} 0 1 = cc in omega arith)
last_passed None None (Some a) few short e = absurd (let z : ◌≡◌ {A = ℕ} 0 1 = cc in omega arith)

module _ (start end left : List ℕ) (n : ℕ) (word : List ℕ) where
  -- and so the output row has n places
  row_fits : walk_refused start end left n word ≡ None → n ≤ length word
  row_fits e =
      ltb-false (length word) n
      (last_passed (refuse (ltb character_limit n) TooLong) (refuse (not (eqb (length start) (length end))) Uneven)
      (refuse (ltb candidate_limit (length start)) TooMany) (ltb (length left) (length start + 2)) _ e).1

  -- the output row is as long as it came
  pub word_kept : length (walk_back_alone start end left n word).word ≡ length word
  unfolding walk_back_alone
  word_kept = go (walk_refused start end left n word) refl (walk_back start end left n) refl
    where
      go : (refused : Option Refusal) → walk_refused start end left n word ≡ refused → (walked : Option (List ℕ)) → walk_back start end left n ≡ walked
          → length (written_unless refused walked word).word ≡ length word
      go (Some answer) e walked w = refl
      go None e None w = refl
      go None e (Some found) w = over_length found word (omega (arith, words_fit start end left n found w, row_fits e))

-- what a first pass tells, with the refusal where it breaks off
pub counted_ok : (o : Option ℕ) (count : ℕ) (why : Refusal) → Ok count ≡ ok_or o why → o ≡ Some count
counted_ok None count why e = absurd (let z : ◌≡◌ {A = ℕ} 0 1 = cc in omega arith)
counted_ok (Some x) count why e = let same : x ≡ count = cc in ap Some same

pub counted_err : (o : Option ℕ) (other why : Refusal) → Err other ≡ ok_or o why → (o ≡ None) × (other ≡ why)
counted_err None other why e = (refl, cc)
counted_err (Some x) other why e = absurd (let z : ◌≡◌ {A = ℕ} 0 1 = cc in omega arith)

-- a first pass that breaks off found nothing
pub broken_found : (walked : Option (List ℕ)) → option_map length walked ≡ None → walked ≡ None
broken_found None e = refl
broken_found (Some found) e = absurd (let z : ◌≡◌ {A = ℕ} 0 1 = cc in omega arith)

-- a first pass that comes through counted what the walk finds
pub whole_found : (walked : Option (List ℕ)) (count : ℕ) → option_map length walked ≡ Some count
    → ((found : List ℕ) × (walked ≡ Some found) × (length found ≡ count))
whole_found None count e = absurd (let z : ◌≡◌ {A = ℕ} 0 1 = cc in omega arith)
whole_found (Some found) count e = (found, refl, cc)

-- What the first pass's count tells: the candidates found are so many, at most n, and so many links from the end mark on lead to them.
pub record Found (start end left : List ℕ) (n count : ℕ) : Type 0 where
  pub words : List ℕ
  pub walked : walk_back start end left n ≡ Some words
  pub many : length words ≡ count
  pub few : count ≤ n
  pub sure : Sure left (length start + 1) count (length start + 1)
  pub again : linked left count (length start + 1) [] ≡ words

pub found_by : (start end left : List ℕ) (n count : ℕ) → length start + 2 ≤ length left → option_map length (walk_back start end left n) ≡ Some count
    → Found start end left n count
found_by start end left n count room e =
    let (words, walked, many) = whole_found (walk_back start end left n) count e in
    let (sure, again) =
    subst
    (λ (count : ℕ). Sure left (length start + 1) count (length start + 1) × (linked left count (length start + 1) [] ≡ words))
    many
    (walk_again start end left n words room walked) in
    record {
      words = words;
      walked = walked;
      many = many;
      few = omega (arith, many, words_fit start end left n words walked);
      sure = sure;
      again = again;
    }

-- ---- rows that agree

-- Only the links of the start mark, the candidates and the end mark are looked at: rows that agree there give the same walk.
module _ (start end left other : List ℕ) (agree : (i : ℕ) → i ≤ length start + 1 → get_or left i none_link ≡ get_or other i none_link) where
  same_from : (most position number : ℕ) (found : List ℕ) → number ≤ length start + 1
      → walk_from start end left most position number found ≡ walk_from start end other most position number found
  unfolding walk_from
  same_from zero position number found h = refl
  same_from (suc most) position number found h =
      go (link_at start end position (get_or left number none_link)) refl (λ k. same_from most (get_or start k 0) (suc k) (k ∷ found))
    where
      go : (link : Option Link) → link_at start end position (get_or left number none_link) ≡ link
          → ((k : ℕ) → suc k ≤ length start + 1
          → walk_from start end left most (get_or start k 0) (suc k) (k ∷ found) ≡ walk_from start end other most (get_or start k 0) (suc k) (k ∷ found))
          → walk_from start end left (suc most) position number found ≡ walk_from start end other (suc most) position number found
      go link e again =
          step start end left most position number found link e
          ∙ on link e again
          ∙ sym (step start end other most position number found link (ap (λ (x : ℕ). link_at start end position x) (sym (agree number h)) ∙ e))
        where
          on : (link : Option Link) → link_at start end position (get_or left number none_link) ≡ link
              → ((k : ℕ) → suc k ≤ length start + 1
              → walk_from start end left most (get_or start k 0) (suc k) (k ∷ found) ≡ walk_from start end other most (get_or start k 0) (suc k) (k ∷ found))
              → follow link found (λ (k : ℕ). walk_from start end left most (get_or start k 0) (suc k) (k ∷ found))
              ≡ follow link found (λ (k : ℕ). walk_from start end other most (get_or start k 0) (suc k) (k ∷ found))
          on (Some ToStart) e again = refl
          on (Some (ToCandidate k)) e again = again k (omega (arith, (right start end position (get_or left number none_link) k e).there))
          on None e again = refl

  pub same_walk_back : (n : ℕ) → walk_back start end left n ≡ walk_back start end other n
  unfolding walk_back
  same_walk_back n = same_from (suc n) n (suc (length start)) [] (omega arith)

-- ---- examples

-- Document 01's example B, its left row given; then no text; then links that are broken: to none, to the end mark, to entry 0 too early,
-- to a candidate that ends elsewhere, to one whose start is its end, and to itself. The output row has four places, which hold 7 before.
walked : List ℕ → List ℕ → List ℕ → ℕ → Outcome
walked start end left n = walk_back_alone start end left n (7 ∷ 7 ∷ 7 ∷ 7 ∷ [])

examples :
    walked (0 ∷ 0 ∷ 1 ∷ 1 ∷ 2 ∷ []) (1 ∷ 2 ∷ 2 ∷ 3 ∷ 3 ∷ []) (65535 ∷ 0 ∷ 0 ∷ 1 ∷ 1 ∷ 2 ∷ 5 ∷ []) 3
    ∷ walked [] [] (65535 ∷ 0 ∷ []) 0
    ∷ walked (0 ∷ []) (1 ∷ []) (65535 ∷ 0 ∷ 65535 ∷ []) 1
    ∷ walked (0 ∷ []) (1 ∷ []) (65535 ∷ 0 ∷ 2 ∷ []) 1
    ∷ walked (0 ∷ []) (1 ∷ []) (65535 ∷ 0 ∷ 0 ∷ []) 1
    ∷ walked (0 ∷ []) (1 ∷ []) (65535 ∷ 0 ∷ 1 ∷ []) 2
    ∷ walked (1 ∷ []) (1 ∷ []) (65535 ∷ 0 ∷ 1 ∷ []) 1
    ∷ walked (1 ∷ []) (2 ∷ []) (65535 ∷ 1 ∷ 1 ∷ []) 2
    ∷ []
    ≡ outcome (work_done 2 (pos 0)) (1 ∷ 4 ∷ 7 ∷ 7 ∷ [])
    ∷ outcome (work_done 0 (pos 0)) (7 ∷ 7 ∷ 7 ∷ 7 ∷ [])
    ∷ outcome (Err BrokenLink) (7 ∷ 7 ∷ 7 ∷ 7 ∷ [])
    ∷ outcome (Err BrokenLink) (7 ∷ 7 ∷ 7 ∷ 7 ∷ [])
    ∷ outcome (Err BrokenLink) (7 ∷ 7 ∷ 7 ∷ 7 ∷ [])
    ∷ outcome (Err BrokenLink) (7 ∷ 7 ∷ 7 ∷ 7 ∷ [])
    ∷ outcome (Err BrokenLink) (7 ∷ 7 ∷ 7 ∷ 7 ∷ [])
    ∷ outcome (Err BrokenLink) (7 ∷ 7 ∷ 7 ∷ 7 ∷ [])
    ∷ []
unfolding walked walk_back_alone walk_back walk_from
examples = refl
