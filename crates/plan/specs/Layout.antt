-- Where a plan's bits stand. Assumes nothing.
--     revision_of bs, count_of bs, reload_of bs, head_spare_of bs  the fields of the head, the first two bytes
--     head_widths, head_values revision count reload spare         the widths of the head's fields, and what they hold
--     body bs                                                      the bytes after the head
--     row_bytes b i                                                the bytes of the body b from row i on
--     task_of r, spare_of r                                        the task and the spare bits that the first 29 of the bytes r spell
--     row_widths, row_values t spare                               the widths of a row's fields, and what they hold
--     row_of b i                                                   the task of row i of the body b
--     rows_of b n                                                  the tasks of its first n rows
--     row_bit i first                                              the bit `first` of row i, counted from the plan's first bit
use Rattle.std.specs.Prelude.{ℕ, ◌+◌, ◌-◌, ◌*◌, List, [], ◌∷◌, map, drop}
use Rattle.std.specs.List.{range_with_len}
use Rattle.bits.specs.Bits.{spelled}
use Rattle.plan.specs.declared.tasks.Task.{Task}

-- Four bits from the first.
abbrev pub revision_of : List ℕ → ℕ
revision_of bs = spelled bs 0 4

-- The head has the task count less one, so that 1 to 16 fit four bits.
abbrev pub count_of : List ℕ → ℕ
count_of bs = spelled bs 4 4 + 1

-- The ticks that it takes to reload one block.
abbrev pub reload_of : List ℕ → ℕ
reload_of bs = spelled bs 8 6

-- Two bits that stay 0.
abbrev pub head_spare_of : List ℕ → ℕ
head_spare_of bs = spelled bs 14 2

-- Sixteen bits in all.
abbrev pub head_widths : List ℕ
head_widths = 4 ∷ 4 ∷ 6 ∷ 2 ∷ []

-- In the order of the widths.
abbrev pub head_values : ℕ → ℕ → ℕ → ℕ → List ℕ
head_values revision count reload spare = revision ∷ (count - 1) ∷ reload ∷ spare ∷ []

-- The rows begin with the third byte.
abbrev pub body : List ℕ → List ℕ
body bs = drop 2 bs

-- A row has 29 bytes, and the rows stand side by side.
abbrev pub row_bytes : List ℕ → ℕ → List ℕ
row_bytes b i = drop (29 * i) b

-- Each field by its first bit in the row and its width.
abbrev pub task_of : List ℕ → Task
task_of r = record {
  offset = spelled r 0 20;
  period = spelled r 20 20;
  deadline = spelled r 40 20;
  work = spelled r 60 20;
  priority = spelled r 80 8;
  fixed_delay = spelled r 88 12;
  useful = record { lines = spelled r 100 64 };
  evicting = record { lines = spelled r 164 64 };
}

-- The last four bits of a row, which stay 0.
abbrev pub spare_of : List ℕ → ℕ
spare_of r = spelled r 228 4

-- 232 bits in all.
abbrev pub row_widths : List ℕ
row_widths = 20 ∷ 20 ∷ 20 ∷ 20 ∷ 8 ∷ 12 ∷ 64 ∷ 64 ∷ 4 ∷ []

-- In the order of the widths.
abbrev pub row_values : Task → ℕ → List ℕ
row_values t spare =
    t.offset ∷ t.period ∷ t.deadline ∷ t.work ∷ t.priority ∷ t.fixed_delay ∷ t.useful.lines ∷ t.evicting.lines ∷ spare ∷ []

-- Tasks are numbered from 0 in the order of their rows.
abbrev pub row_of : List ℕ → ℕ → Task
row_of b i = task_of (row_bytes b i)

-- The rows 0 to n − 1.
abbrev pub rows_of : List ℕ → ℕ → List Task
rows_of b n = map (row_of b) (range_with_len 0 n)

-- Sixteen bits of head, then 232 bits a row.
abbrev pub row_bit : ℕ → ℕ → ℕ
row_bit i first = 16 + 232 * i + first
