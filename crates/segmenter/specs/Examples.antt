-- Document 01, "Examples to hold": the cases with *, as a single list under a single claim. It holds: `examples` in Examples of proofs/.
use Rattle.std.specs.Prelude.{ℕ, ◌/◌, ◌%◌, ◌≡◌, List, [], ◌∷◌, ◌++◌, map, ℤ, pos, negsuc}
use Rattle.ground.specs.Rows.{over}
use Rattle.ground.specs.Entry.{none_link}
use Rattle.ground.specs.Answer.{refusal, numbers_of}
use Rattle.ground.specs.declared.answer.Numbers.{Numbers}
use Rattle.checks.specs.Job.{Job, job, JobRows, job_rows}
use Rattle.chains.specs.Chain.{chain_cost, path_cost}
use Rattle.segmenter.specs.Segment.{given_of, segment}

-- A job, the answer that is wanted, and what is to be written to each row from its start.
pub record Example : Type 0 where
  pub asked : Job
  pub answer : Numbers
  pub written : JobRows

-- What a call leaves: the four numbers, and the ten rows.
pub record Result : Type 0 where
  pub answer : Numbers
  pub rows : JobRows

-- Every row is lent with eight places that hold 9.
abbrev pub nines : List ℕ
nines = 9 ∷ 9 ∷ 9 ∷ 9 ∷ 9 ∷ 9 ∷ 9 ∷ 9 ∷ []

abbrev pub cost_nines : List ℤ
cost_nines = map (λ (x : ℕ). pos x) nines

-- What is left by the rules, and what is wanted: behind what is written the nines stay.
abbrev pub got : Example → Result
got e =
    let o = segment e.asked (job_rows nines nines nines nines nines cost_nines nines nines nines nines) in
    record { answer = numbers_of o.answer; rows = o.rows }

abbrev pub wanted : Example → Result
wanted e =
    let w = e.written in
    record {
      answer = e.answer;
      rows =
          job_rows
          (over w.offset nines)
          (over w.run nines)
          (over w.first nines)
          (over w.last nines)
          (over w.left nines)
          (over w.cost cost_nines)
          (over w.next nines)
          (over w.word_offset nines)
          (over w.word_id nines)
          (over w.word_kind nines);
    }

-- ---- how the cases are written down

-- Ten bytes: a word id below 256, a word cost as sixteen bits, a left id and a right id below 256.
abbrev pub entry : ℕ → ℕ → ℕ → ℕ → List ℕ
entry id cost left_id right_id = id ∷ 0 ∷ 0 ∷ 0 ∷ cost % 256 ∷ cost / 256 ∷ left_id ∷ 0 ∷ right_id ∷ 0 ∷ []

-- A job of system words with extra 0, in a matrix, in Normal.
abbrev pub in_matrix : ℕ → ℕ → List ℤ → List ℕ → List ℕ → List ℕ → List ℕ → Job
in_matrix height width matrix text start end entries =
    job text start end (map (λ (s : ℕ). 0) start) (map (λ (s : ℕ). pos 0) start) entries height width matrix 0 0 0 0 0

-- In the matrix 1×1 of 0.
abbrev pub plain : List ℕ → List ℕ → List ℕ → List ℕ → Job
plain = in_matrix 1 1 (pos 0 ∷ [])

-- B's text and candidates, with a mode number and the four numbers K, P, O and Q.
abbrev pub job_b : ℕ → ℕ → ℕ → ℕ → ℕ → Job
job_b =
    job
    (0xe6 ∷ 0x9d ∷ 0xb1 ∷ 0xe4 ∷ 0xba ∷ 0xac ∷ 0xe9 ∷ 0x83 ∷ 0xbd ∷ [])
    (0 ∷ 0 ∷ 1 ∷ 1 ∷ 2 ∷ [])
    (1 ∷ 2 ∷ 2 ∷ 3 ∷ 3 ∷ [])
    (0 ∷ 0 ∷ 0 ∷ 0 ∷ 0 ∷ [])
    (pos 0 ∷ pos 0 ∷ pos 0 ∷ pos 0 ∷ pos 0 ∷ [])
    (entry 0 300 0 0 ++ (entry 1 100 0 0 ++ (entry 2 200 0 0 ++ (entry 3 150 0 0 ++ entry 4 120 0 0))))
    1
    1
    (pos 0 ∷ [])

-- J's matrix, with one candidate over "a".
abbrev pub job_j : ℕ → ℕ → Job
job_j left_id right_id = in_matrix 2 2 (pos 0 ∷ pos 5 ∷ pos 9 ∷ pos 0 ∷ []) (0x61 ∷ []) (0 ∷ []) (1 ∷ []) (entry 0 0 left_id right_id)

-- Answer 0, with a count and a cost.
abbrev pub done : ℕ → ℤ → Numbers
done count cost = record { number = 0; place = 0; count = count; cost = cost }

-- Nothing is written.
abbrev pub nothing : JobRows
nothing = job_rows [] [] [] [] [] [] [] [] [] []

-- One word over one character of so many bytes: its cost, that of the end mark, and its id.
abbrev pub one_word : ℕ → ℤ → ℤ → ℕ → JobRows
one_word bytes cost total id =
    job_rows
    (0 ∷ bytes ∷ [])
    (0 ∷ 0 ∷ [])
    (0 ∷ 1 ∷ [])
    (0 ∷ 2 ∷ [])
    (none_link ∷ 0 ∷ 1 ∷ [])
    (pos 0 ∷ cost ∷ total ∷ [])
    (none_link ∷ 2 ∷ none_link ∷ [])
    (0 ∷ [])
    (id ∷ [])
    (0 ∷ [])

-- ---- the cases

unfoldable pub listed : List Example
listed =
    -- A: empty text, c = 0, matrix value 7
    record {
      asked = in_matrix 1 1 (pos 7 ∷ []) [] [] [] [];
      answer = done 0 (pos 7);
      written = job_rows (0 ∷ []) (0 ∷ []) (0 ∷ []) (1 ∷ []) (none_link ∷ 0 ∷ []) (pos 0 ∷ pos 7 ∷ []) (1 ∷ none_link ∷ []) [] [] [];
    }
    -- B: words 1 and 4 at offsets 0 and 6
    ∷ record {
      asked = job_b 0 0 0 0 0;
      answer = done 2 (pos 220);
      written =
          job_rows
          (0 ∷ 3 ∷ 6 ∷ 9 ∷ [])
          (3 ∷ 2 ∷ 1 ∷ 0 ∷ [])
          (0 ∷ 1 ∷ 2 ∷ 4 ∷ [])
          (0 ∷ 1 ∷ 3 ∷ 6 ∷ [])
          (none_link ∷ 0 ∷ 0 ∷ 1 ∷ 1 ∷ 2 ∷ 5 ∷ [])
          (pos 0 ∷ pos 300 ∷ pos 100 ∷ pos 500 ∷ pos 450 ∷ pos 220 ∷ pos 220 ∷ [])
          (none_link ∷ none_link ∷ 3 ∷ none_link ∷ 5 ∷ 6 ∷ none_link ∷ [])
          (0 ∷ 6 ∷ [])
          (1 ∷ 4 ∷ [])
          (0 ∷ 0 ∷ []);
    }
    -- C: Decompose K 1, P 500, O 7, Q 0: words 0, 2, 4
    ∷ record {
      asked = job_b 1 1 500 7 0;
      answer = done 3 (pos 620);
      written =
          job_rows
          (0 ∷ 3 ∷ 6 ∷ 9 ∷ [])
          (3 ∷ 2 ∷ 1 ∷ 0 ∷ [])
          (0 ∷ 1 ∷ 2 ∷ 4 ∷ [])
          (0 ∷ 1 ∷ 3 ∷ 6 ∷ [])
          (none_link ∷ 0 ∷ 0 ∷ 1 ∷ 1 ∷ 3 ∷ 5 ∷ [])
          (pos 0 ∷ pos 300 ∷ pos 100 ∷ pos 500 ∷ pos 450 ∷ pos 620 ∷ pos 620 ∷ [])
          (none_link ∷ none_link ∷ 3 ∷ none_link ∷ 5 ∷ 6 ∷ none_link ∷ [])
          (0 ∷ 3 ∷ 6 ∷ [])
          (0 ∷ 2 ∷ 4 ∷ [])
          (0 ∷ 0 ∷ 0 ∷ []);
    }
    -- D: two equal candidates over one character; the end mark's left is the first
    ∷ record {
      asked = plain (0x61 ∷ []) (0 ∷ 0 ∷ []) (1 ∷ 1 ∷ []) (entry 0 5 0 0 ++ entry 0 5 0 0);
      answer = done 1 (pos 5);
      written =
          job_rows
          (0 ∷ 1 ∷ [])
          (0 ∷ 0 ∷ [])
          (0 ∷ 1 ∷ [])
          (0 ∷ 3 ∷ [])
          (none_link ∷ 0 ∷ 0 ∷ 1 ∷ [])
          (pos 0 ∷ pos 5 ∷ pos 5 ∷ pos 5 ∷ [])
          (none_link ∷ 2 ∷ 3 ∷ none_link ∷ [])
          (0 ∷ [])
          (0 ∷ [])
          (0 ∷ []);
    }
    -- E: "ab", only (0,1): 12, and the word rows keep their contents
    ∷ record {
      asked = plain (0x61 ∷ 0x62 ∷ []) (0 ∷ []) (1 ∷ []) (entry 0 5 0 0);
      answer = refusal 12 0;
      written =
          job_rows
          (0 ∷ 1 ∷ 2 ∷ [])
          (0 ∷ 0 ∷ 0 ∷ [])
          (0 ∷ 1 ∷ none_link ∷ [])
          (0 ∷ 1 ∷ none_link ∷ [])
          (none_link ∷ 0 ∷ none_link ∷ [])
          (pos 0 ∷ pos 5 ∷ pos 0 ∷ [])
          (none_link ∷ none_link ∷ none_link ∷ [])
          []
          []
          [];
    }
    -- F: (0,0) on "a": 10, and nothing is written
    ∷ record { asked = plain (0x61 ∷ []) (0 ∷ []) (0 ∷ []) (entry 0 5 0 0); answer = refusal 10 0; written = nothing }
    -- G: (0,2) on "a": 10
    ∷ record { asked = plain (0x61 ∷ []) (0 ∷ []) (2 ∷ []) (entry 0 5 0 0); answer = refusal 10 0; written = nothing }
    -- H: "ab", (0,2) cost 5, (1,2) cost −32,768: cost 5, entry 2 unreached
    ∷ record {
      asked = plain (0x61 ∷ 0x62 ∷ []) (0 ∷ 1 ∷ []) (2 ∷ 2 ∷ []) (entry 0 5 0 0 ++ entry 1 32768 0 0);
      answer = done 1 (pos 5);
      written =
          job_rows
          (0 ∷ 1 ∷ 2 ∷ [])
          (0 ∷ 0 ∷ 0 ∷ [])
          (0 ∷ none_link ∷ 1 ∷ [])
          (0 ∷ none_link ∷ 3 ∷ [])
          (none_link ∷ 0 ∷ none_link ∷ 1 ∷ [])
          (pos 0 ∷ pos 5 ∷ pos 0 ∷ pos 5 ∷ [])
          (none_link ∷ 3 ∷ none_link ∷ none_link ∷ [])
          (0 ∷ [])
          (0 ∷ [])
          (0 ∷ []);
    }
    -- I: entry 01 00 00 00 00 80 00 00 00 00: id 1, cost −32,768; with FF 7F in the cost field, 32,767
    ∷ record {
      asked = plain (0x61 ∷ []) (0 ∷ []) (1 ∷ []) (1 ∷ 0 ∷ 0 ∷ 0 ∷ 0 ∷ 0x80 ∷ 0 ∷ 0 ∷ 0 ∷ 0 ∷ []);
      answer = done 1 (negsuc 32767);
      written = one_word 1 (negsuc 32767) (negsuc 32767) 1;
    }
    ∷ record {
      asked = plain (0x61 ∷ []) (0 ∷ []) (1 ∷ []) (1 ∷ 0 ∷ 0 ∷ 0 ∷ 0xff ∷ 0x7f ∷ 0 ∷ 0 ∷ 0 ∷ 0 ∷ []);
      answer = done 1 (pos 32767);
      written = one_word 1 (pos 32767) (pos 32767) 1;
    }
    -- J: left id 1, right id 0 gives 9; left id 0, right id 1 gives 5
    ∷ record { asked = job_j 1 0; answer = done 1 (pos 9); written = one_word 1 (pos 9) (pos 9) 0 }
    ∷ record { asked = job_j 0 1; answer = done 1 (pos 5); written = one_word 1 (pos 0) (pos 5) 0 }
    -- L: ED A0 80: 1, place 0; 41 C0 80: 1, place 1; F4 8F BF BF: one character, here with a candidate over it
    ∷ record { asked = plain (0xed ∷ 0xa0 ∷ 0x80 ∷ []) [] [] []; answer = refusal 1 0; written = nothing }
    ∷ record { asked = plain (0x41 ∷ 0xc0 ∷ 0x80 ∷ []) [] [] []; answer = refusal 1 1; written = nothing }
    ∷ record { asked = plain (0xf4 ∷ 0x8f ∷ 0xbf ∷ 0xbf ∷ []) (0 ∷ []) (1 ∷ []) (entry 0 5 0 0); answer = done 1 (pos 5); written = one_word 4 (pos 5) (pos 5) 0 }
    ∷ []

-- The claim: of every case, what the rules leave is what is wanted.
abbrev pub Hold : Type 0
Hold = map got listed ≡ map wanted listed

-- ---- chains and paths, added up by hand

-- B's three paths: words 1 and 4; 0 and 3; 0, 2 and 4.
abbrev pub paths_b : List (List ℕ)
paths_b = (1 ∷ 4 ∷ []) ∷ (0 ∷ 3 ∷ []) ∷ (0 ∷ 2 ∷ 4 ∷ []) ∷ []

-- What they cost as chains and as paths, in Normal and in C's mode, which charges 500 for word 1 and for word 3; and A's path of no words.
abbrev pub CostsHold : Type 0
CostsHold =
    map (chain_cost (given_of (job_b 0 0 0 0 0))) paths_b
    ∷ map (path_cost (given_of (job_b 0 0 0 0 0))) paths_b
    ∷ map (chain_cost (given_of (job_b 1 1 500 7 0))) paths_b
    ∷ map (path_cost (given_of (job_b 1 1 500 7 0))) paths_b
    ∷ map (path_cost (given_of (in_matrix 1 1 (pos 7 ∷ []) [] [] [] []))) ([] ∷ [])
    ∷ []
    ≡ (pos 220 ∷ pos 450 ∷ pos 620 ∷ [])
    ∷ (pos 220 ∷ pos 450 ∷ pos 620 ∷ [])
    ∷ (pos 720 ∷ pos 450 ∷ pos 620 ∷ [])
    ∷ (pos 720 ∷ pos 950 ∷ pos 620 ∷ [])
    ∷ (pos 7 ∷ [])
    ∷ []
