use Rattle.std.proofs.Common.{◌≡◌, ℕ, ◌+◌, ◌≤◌, ◌++◌, None, refl, sym, ◌∙◌, subst, ⊎_elim, eq-or-lt_of_le, arith}
use Rattle.row_log.specs.Entries.{entries}
use Rattle.run.proofs.Going.{full_after, own_memory, same_memory, stood_at, stop_now, written_more, written_none}
use Rattle.run.proofs.runs.Run.go_on.Goals as goal
use Rattle.run.specs.Advances.{asking, stop_after}
use Rattle.run.specs.Followers.{clock_in}
use Rattle.run.specs.Runs.{setting_in}
use Rattle.run.specs.Written.{job_in, row_list, switch_in, written}
use Rattle.schedule.specs.States.{Setting}

pub loop-done-init : goal.loop-done-init
loop-done-init g c =
    let x = setting_in c.args.self.now in
    let t = clock_in c.args.self.now.follower in
    record {
      setting = refl;
      clock = omega arith;
      jobs = written_none (job_in x) t _;
      switches = written_none (switch_in x) t _;
      job_memory = own_memory;
      switch_memory = own_memory;
      going = λ u l. absurd (omega (arith, l));
    }

pub loop-done-preserved : goal.loop-done-preserved
loop-done-preserved g c =
    let x = setting_in c.args.self.now in
    let t = clock_in c.args.self.now.follower in
    let q = asking c.args.ticks c.args.jobs.now c.args.switches.now in
    let now = c.loop-done.self in
    let kept = c.loop-done.invariant in
    let made = c.step.ensures in
    let n = c.loop-done.done in
    let jobs = subst (λ (z : Setting). entries c.step.new.jobs ≡ entries c.loop-done.jobs ++ row_list (job_in z (clock_in now.follower))) kept.setting made.jobs in
    let switches = subst (λ (z : Setting). entries c.step.new.switches ≡ entries c.loop-done.switches ++ row_list (switch_in z (clock_in now.follower))) kept.setting made.switches in
    let last : stop_after x t q n ≡ None =
    sym
    (stop_now x t n q now.standing _ _ (stood_at now x (t + n) kept.setting kept.clock) c.loop-done-test.true
    (full_after c.args.jobs.now c.loop-done.jobs (written (job_in x) t n) kept.jobs kept.job_memory)
    (full_after c.args.switches.now c.loop-done.switches (written (switch_in x) t n) kept.switches kept.switch_memory))
    ∙ (sym c.stop.ensures ∙ c.in_default.is)
    in
    record {
      setting = made.setting ∙ kept.setting;
      clock = omega (arith, made.clock, kept.clock);
      jobs = written_more (job_in x) t n (clock_in now.follower) _ _ _ kept.clock kept.jobs jobs;
      switches = written_more (switch_in x) t n (clock_in now.follower) _ _ _ kept.clock kept.switches switches;
      job_memory = same_memory kept.job_memory made.job_memory;
      switch_memory = same_memory kept.switch_memory made.switch_memory;
      going = λ u l.
          ⊎_elim
          (λ same. subst (λ (k : ℕ). stop_after x t q k ≡ None) (sym same) last)
          (λ less. kept.going u less)
          (eq-or-lt_of_le (let le : u ≤ n = omega (arith, l) in le));
    }
