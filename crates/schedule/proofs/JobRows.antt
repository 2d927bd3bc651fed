-- What a table says after a row was put into it.
use Rattle.std.proofs.Common.{◌≡◌, ◌≤◌, ℕ, List, map, length, set, ap, ◌∙◌, arith}
use Rattle.std.proofs.lemmas.List.{length-map, length-take, map-set}
use Rattle.dispatch.specs.declared.candidates.Candidate.{Candidate}
use Rattle.plan.specs.Plans.{tasks_in}
use Rattle.plan.specs.declared.admitted.Plan.{Plan}
use Rattle.schedule.specs.JobTables.{untils_in}
use Rattle.schedule.specs.declared.jobs.JobTable.{JobTable}

pub row_placed : {X : Type 0} (f : Candidate → X) (rows made : List Candidate) (i : ℕ) (row : Candidate) → made ≡ set rows i row → map f made ≡ set (map f rows) i (f row)
row_placed f rows made i row e = ap (map f) e ∙ map-set f rows i row

-- a table has a row for each task of a plan
pub rows_enough : (p : Plan) (b : JobTable) → length (tasks_in p) ≤ length b.rows
rows_enough p b = omega (arith, length-take p.head.count p.tasks, p.sized, b.sized)

pub untils_enough : (p : Plan) (b : JobTable) → length (tasks_in p) ≤ length (untils_in b)
untils_enough p b = omega (arith, rows_enough p b, length-map b.rows (λ (r : Candidate). r.until))
