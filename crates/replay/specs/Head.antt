-- The head of a job in the list: thirteen numbers of four bytes each.
use Rattle.std.specs.Prelude.{ℕ, ◌*◌, ◌≤◌, List}
use Rattle.ground.specs.Entry.{u32_at}
use Rattle.ground.specs.declared.answer.Numbers.{Numbers}
use Rattle.replay.specs.declared.head.Head.{Head}
use Rattle.replay.specs.Numbers.{i32_at}

-- How many bytes a head has.
abbrev pub head_bytes : ℕ
head_bytes = 52

-- The recorded answer; its place is 0.
abbrev pub numbers_in : List ℕ → Numbers
numbers_in bytes = record { number = u32_at bytes 40; place = 0; count = u32_at bytes 44; cost = i32_at bytes 48 }

-- Text length in bytes, n, c, height, width, mode and its four numbers, and the recorded answer.
unfoldable pub head_of : List ℕ → Head
head_of bytes =
    record {
      text = u32_at bytes 0;
      n = u32_at bytes 4;
      c = u32_at bytes 8;
      height = u32_at bytes 12;
      width = u32_at bytes 16;
      mode = u32_at bytes 20;
      kanji_threshold = u32_at bytes 24;
      kanji_price = u32_at bytes 28;
      other_threshold = u32_at bytes 32;
      other_price = u32_at bytes 36;
      numbers = numbers_in bytes;
    }

-- How many values the matrix has.
abbrev pub value_count : Head → ℕ
value_count head = head.height * head.width

-- How many words are recorded.
abbrev pub word_count : Head → ℕ
word_count head = head.numbers.count

-- The limits of the list.
pub record Within (head : Head) : Type 0 where
  pub text : head.text ≤ 512
  pub characters : head.n ≤ 128
  pub candidates : head.c ≤ 512
  pub values : value_count head ≤ 1024
  pub words : word_count head ≤ head.n
