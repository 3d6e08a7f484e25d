-- How to read these files beside document 01. `name : type` and the lines under it define a name; `abbrev`, `unfoldable` and `unfolding`
-- change no meaning. `f x y` is f applied to x and y, f given fewer arguments is the function of the others, and `(f x y).field` is a field of what
-- that gives. An argument in braces is not written where f is applied; `A → Type 0` is a statement about an A.
--   ℕ, ℤ            natural numbers, `zero` and `suc n` (n + 1), on which `a - b` stops at 0; whole numbers: `pos n` is n, `negsuc n` is −1 − n
--   cond t x y      x if t is true, otherwise y
--   leb, ltb, eqb   ≤, < and = as tests; `&&`, `||`, `not` join them
--   [], x ∷ xs      the empty list; x in front of xs. `length` counts, `++` joins two lists; take n, drop n: the first n, and all but them; slice a b:
--                   those from number a up to and without b; drop_last: all but the last; reverse: from the last to the first
--   None, Some x    nothing, or x: Rust's Option. `option_or o p` is o, or p where o is None; option_map f o: f of what it holds
--   Ok x, Err e     x, or why there is none: Rust's Result
--   get_or xs i d   the element of xs at i, counted from 0, or d where there is none
--   record { .. }   a struct's value. declared.x.T is the type T of src/x.rt
--   x ≡ y, P × Q    x is y; P and Q. `P ⊎ Q`: P or Q; `Unit` holds, and `⊥` does not. `(k : ℕ) → P`: P for every k; `(j : ℕ) × P`: P for
--                   some j; `P → Q`: if P then Q; `P → ⊥`: not P; `P ↔ Q`: exactly if. A `record R x where` whose lines are such statements
--                   says that all of them hold; a `data D x where` holds by one of its lines, and by nothing else
--   λ x. e          the function that gives e for x; `map f xs`: f of each element; `flat_map f xs`: the lists f of each, joined; `let x = e in b`:
--                   b, where x is e
--   +ℤ, ≤ℤ, lt_z    sum and order of whole numbers, and < as a test; neg_ℤ z is −z; sum ◌+ℤ◌ (pos 0) xs adds up a list
--   /, %            quotient and remainder
-- In the contracts of src/, `ensures { P }` says that every call ends and that P then holds of what it returned, `result`; `requires`, where
-- there is one, what is asked of a caller. `row.now` is the content of a row that is read, `row.old` and `row.new` are those of a written row
-- before and after the call. A function with several clauses has a name for each. Rows that are lent together are a struct of references, and
-- `row.ghost_name` says which row a reference leads to: with equal names it is the same one. `IfOk r P` says P of what r holds if it is Ok, `OnOk r P` that P
-- holds then, and `IfSome` is the same of an Option.
pub mod Limits
pub mod Rows
pub mod Answer
pub mod Entry
pub mod Matrix
pub mod Charge
pub mod Text
pub mod Characters
-- Inner, no part of document 01:
pub mod Filling
