-- What reading a head gives. Assumes nothing.
--     HeadOf bs h rest      h is the head that the bytes bs spell, and rest are the bytes after it
use Rattle.std.specs.Prelude.{◌≡◌, ℕ, List}
use Rattle.plan.specs.declared.heads.Head.{Head}
use Rattle.plan.specs.Layout.{count_of, reload_of, body}

pub record HeadOf (bs : List ℕ) (h : Head) (rest : List ℕ) : Type 0 where
  pub count : h.count ≡ count_of bs
  pub reload : h.block_reload_time ≡ reload_of bs
  pub after : rest ≡ body bs
