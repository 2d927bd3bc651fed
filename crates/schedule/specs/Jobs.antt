-- The jobs of one task, by their numbers. Assumes nothing.
--     release k m           the instant at which job m of the task k is released
--     deadline_at k m       the instant by which job m has to be finished
--     due t k n             job n is released at instant t
--     counted t k n         the number of the next job after the releases of instant t, where it is n before them
--     live_job n            the number of the live job, where n is the number of the next one
--     vacant                the slot of a task without a live job
--     fresh k               the slot of the task k at a release
--     entered t k n s       the slot s after the releases of instant t
--     shown t k n s         what a policy is shown of the slot s at instant t, after the releases
--     late_job t k n s      the live job is late at instant t, before the releases
--     age t k n s           how long ago the live job was released, at instant t, before the releases
use Rattle.std.specs.Prelude.{ℕ, ◌+◌, ◌-◌, ◌*◌, Bool, true, false, cond, ◌&&◌, ◌==◌}
use Rattle.dispatch.specs.declared.candidates.Candidate.{Candidate}
use Rattle.plan.specs.declared.tasks.Task.{Task}
use Rattle.schedule.specs.declared.slots.Slot.{Slot}

-- Releases are one period apart, from the offset on.
abbrev pub release : Task → ℕ → ℕ
release k m = k.offset + m * k.period

-- The deadline counts from the release.
abbrev pub deadline_at : Task → ℕ → ℕ
deadline_at k m = release k m + k.deadline

-- Jobs are released in the order of their numbers, so only the next one can be.
abbrev pub due : ℕ → Task → ℕ → Bool
due t k n = t == release k n

-- Only a release moves it on.
abbrev pub counted : ℕ → Task → ℕ → ℕ
counted t k n = cond (due t k n) (n + 1) n

-- A task has one live job at most, the last one released.
abbrev pub live_job : ℕ → ℕ
live_job n = n - 1

-- Zeros.
abbrev pub vacant : Slot
vacant = record { live = false; left = 0; owed = 0; begun = false }

-- All its work is left, nothing is owed, and it has not begun.
abbrev pub fresh : Task → Slot
fresh k = record { live = true; left = k.work; owed = 0; begun = false }

-- A job that is due takes the slot.
abbrev pub entered : ℕ → Task → ℕ → Slot → Slot
entered t k n s = cond (due t k n) (fresh k) s

-- The slot, and the ticks until the deadline of its job. Where no job is live, all is zero.
abbrev pub shown : ℕ → Task → ℕ → Slot → Candidate
shown t k n s = record { live = s.live; left = s.left; owed = s.owed; begun = s.begun; until = cond s.live (deadline_at k (live_job n) - t) 0 }

-- It is live at its deadline.
abbrev pub late_job : ℕ → Task → ℕ → Slot → Bool
late_job t k n s = s.live && t == deadline_at k (live_job n)

-- It counts from the release, whether or not the job has begun. Zero where no job is live.
abbrev pub age : ℕ → Task → ℕ → Slot → ℕ
age t k n s = cond s.live (t - release k (live_job n)) 0
