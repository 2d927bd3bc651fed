-- Which samples are taken and compared, one at a time. Assumes nothing.
--     shown_by w s          what the next sample shows, where it is s
--     taken_by w s          the watch after it
--     Watching c t w        w has taken the samples of the instants before t, and no other
use Rattle.std.specs.Prelude.{◌≡◌, ℕ, ◌+◌, ◌*◌, ◌<◌, ◌≤◌, cond, ◌&&◌, ◌==◌, nat_lt}
use Rattle.cycle.specs.Comparisons.{compared_with, next_compared}
use Rattle.run.specs.declared.watch.Watch.{Watch}
use Rattle.schedule.specs.Schedules.{from, sample}
use Rattle.schedule.specs.StateLaws.{same_state}
use Rattle.schedule.specs.States.{Setting, State}
use Rattle.standing.specs.declared.events.Event.{Event}
use Rattle.standing.specs.declared.events.Event.TheVariants.{Nothing, Repeats}

-- Sample 0 is compared with none.
abbrev pub shown_by : Watch → State → Event
shown_by w s = cond (nat_lt 0 w.number && same_state s w.kept) (Repeats (record { sample = w.number; earlier = w.earlier })) Nothing

-- The next sample is one hyperperiod later. What it is compared with is this one, or the one that is kept.
abbrev pub taken_by : Watch → State → Watch
taken_by w s = record {
  period = w.period;
  next = w.next + w.period.ticks;
  number = w.number + 1;
  earlier = next_compared w.number w.earlier;
  kept = cond (next_compared w.number w.earlier == w.number) s w.kept;
}

pub record Watching (c : Setting) (t : ℕ) (w : Watch) : Type 0 where
  pub period : w.period.ticks ≡ c.hyperperiod
  pub next : w.next ≡ from c + w.number * c.hyperperiod
  pub ahead : t ≤ w.next
  -- the sample before the next one lies before t
  pub recent : 1 ≤ w.number → w.next < t + c.hyperperiod
  pub earlier : w.earlier ≡ compared_with w.number
  pub kept : 1 ≤ w.number → w.kept ≡ sample c w.earlier
