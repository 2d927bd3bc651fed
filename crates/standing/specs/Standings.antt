-- How the schedule stands at an instant. Assumes nothing.
--     taken c t k               sample k, from 1 on, is taken at instant t
--     sample_at c t             the number of the sample that is taken at instant t, from 1 on, or none
--     repeats c k               sample k equals the sample that it is compared with
--     compared c o              what the comparison of the sample o shows
--     examined c t              what instant t shows
--     is_open s                 nothing is decided in the standing s
--     moved t s e               the standing after s, once e has been seen at instant t
--     standing_at c t           the standing when the instants up to t have been examined
use Rattle.std.specs.Prelude.{ℕ, zero, suc, ◌+◌, ◌*◌, Bool, true, false, cond, ◌&&◌, Some, None, Option, ◌==◌, nat_le}
use Rattle.cycle.specs.Comparisons.{compared_with}
use Rattle.dispatch.specs.Rules.{first_such}
use Rattle.schedule.specs.Schedules.{from, late_first, moment, sample}
use Rattle.schedule.specs.StateLaws.{same_state}
use Rattle.schedule.specs.States.{Setting}
use Rattle.schedule.specs.declared.rows.LateJob.{LateJob}
use Rattle.standing.specs.declared.events.Event.{Event}
use Rattle.standing.specs.declared.events.Event.TheVariants.{Late, Repeats, Nothing}
use Rattle.standing.specs.declared.standings.Standing.{Standing}
use Rattle.standing.specs.declared.standings.Standing.TheVariants.{Open, Misses, Holds}

-- Sample k is taken at the greatest offset and k hyperperiods. Sample 0 is compared with none.
abbrev pub taken : Setting → ℕ → ℕ → Bool
taken c t k = nat_le 1 k && t == from c + k * c.hyperperiod

-- The number of the sample that is taken then, if one is.
abbrev pub sample_at : Setting → ℕ → Option ℕ
sample_at c t = first_such (suc t) (taken c t)

-- By slots, marks and the running task.
abbrev pub repeats : Setting → ℕ → Bool
repeats c k = same_state (sample c k) (sample c (compared_with k))

abbrev pub compared : Setting → Option ℕ → Event
compared c None = Nothing
compared c (Some k) = cond (repeats c k) (Repeats (record { sample = k; earlier = compared_with k })) Nothing

-- A late job comes before any comparison.
abbrev pub seen : Option LateJob → Event → Event
seen None e = e
seen (Some late) e = Late late

-- Whether a job is late then, and otherwise what the sample shows that is taken then.
unfoldable pub examined : Setting → ℕ → Event
examined c t = seen (late_first c t (moment c t)) (compared c (sample_at c t))

abbrev pub is_open : Standing → Bool
is_open Open = true
is_open (Misses _ _ _) = false
is_open (Holds _ _ _) = false

-- Only what is open is decided, and it stays decided.
abbrev pub moved : ℕ → Standing → Event → Standing
moved t Open (Late late) = Misses t late.task late.job
moved t Open (Repeats repeat) = Holds t repeat.sample repeat.earlier
moved t Open Nothing = Open
moved t (Misses u i m) e = Misses u i m
moved t (Holds u k p) e = Holds u k p

-- Instant by instant. At instant 0 no job is live, and no sample is compared.
unfoldable pub standing_at : Setting → ℕ → Standing
standing_at c zero = Open
standing_at c (suc t) = moved (suc t) (standing_at c t) (examined c (suc t))
