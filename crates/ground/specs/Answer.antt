-- Document 01, "Answer numbers": what each answer returns.
use Rattle.std.specs.Prelude.{ℕ, Bool, cond, ℤ, pos, Option, None, Some, Result, Ok, Err}
use Rattle.ground.specs.declared.answer.Done.{Done}
use Rattle.ground.specs.declared.answer.Refusal.{Refusal}
use Rattle.ground.specs.declared.answer.Refusal.TheVariants.{NotUtf8, TooLong, Uneven, TooMany, BadMatrix, BadMode, ShortRow}
use Rattle.ground.specs.declared.answer.Refusal.TheVariants.{BadKind, OutOfOrder, BadSpan, BadId, NoPath, BrokenLink}
use Rattle.ground.specs.declared.answer.Numbers.{Numbers}

-- What a call answers: its work is done, or a refusal. (`Answer` in src/answer.rt.)
abbrev pub Answer : Type 0
Answer = Result Done Refusal

-- The work is done, with a count and a cost.
abbrev pub work_done : ℕ → ℤ → Answer
work_done count cost = Ok (record { count = count; cost = cost })

-- Every refusal returns count 0 and cost 0.
abbrev pub refusal : ℕ → ℕ → Numbers
refusal number place = record { number = number; place = place; count = 0; cost = pos 0 }

-- The number, place, count and cost of each answer.
abbrev pub numbers_of : Answer → Numbers
numbers_of (Ok work) = record { number = 0; place = 0; count = work.count; cost = work.cost }
numbers_of (Err (NotUtf8 place)) = refusal 1 place
numbers_of (Err TooLong) = refusal 2 0
numbers_of (Err Uneven) = refusal 3 0
numbers_of (Err TooMany) = refusal 4 0
numbers_of (Err BadMatrix) = refusal 5 0
numbers_of (Err BadMode) = refusal 6 0
numbers_of (Err ShortRow) = refusal 7 0
numbers_of (Err (BadKind place)) = refusal 8 place
numbers_of (Err (OutOfOrder place)) = refusal 9 place
numbers_of (Err (BadSpan place)) = refusal 10 place
numbers_of (Err (BadId place)) = refusal 11 place
numbers_of (Err NoPath) = refusal 12 0
numbers_of (Err BrokenLink) = refusal 13 0

-- A test, and the refusal where it holds.
abbrev pub refuse : Bool → Refusal → Option Refusal
refuse test why = cond test (Some why) None

-- The refusal of the tests, or a value where none holds.
abbrev pub unless : {A : Type 0} → Option Refusal → A → Result A Refusal
unless None x = Ok x
unless (Some why) x = Err why
