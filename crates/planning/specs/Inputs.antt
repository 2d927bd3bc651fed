-- The report of an input. Assumes nothing.
--     ordered input         what an input says, order and plan, or its first fault: of the order line, then of the plan
--     answer_text answer    the report of an order and a plan, or of a fault
--     report_text input     the report of an input
--     TrueReportFor answer  what the report tells is true, unless it is a fault
use Rattle.std.specs.Prelude.{ℕ, List, drop, IfOk, Ok, Err, Result}
use Rattle.fault.specs.declared.Fault.{Fault}
use Rattle.order.specs.Orders.{order_of, then}
use Rattle.order.specs.declared.Order.{Order}
use Rattle.plan.specs.Admission.{Content, admission}
use Rattle.planning.specs.Runs.{TrueReport, run_text}
use Rattle.planning.specs.Settings.{setting_for}
use Rattle.report.specs.Reports.{refused_line}

-- The plan is what follows the four letters of the order line.
abbrev pub ordered : List ℕ → Result (Order × Content) Fault
ordered input = then (order_of input) (λ order. then (admission (drop 4 input)) (λ content. Ok (order, content)))

-- An order and a plan are answered by their run, a fault by its line.
abbrev pub answer_text : Result (Order × Content) Fault → List ℕ
answer_text (Ok (order, content)) = run_text (setting_for order content)
answer_text (Err fault) = refused_line fault

-- Every input has just one report.
abbrev pub report_text : List ℕ → List ℕ
report_text input = answer_text (ordered input)

-- Of the schedule that the order and the plan ask for.
abbrev pub TrueReportFor : Result (Order × Content) Fault → Type 0
TrueReportFor answer = IfOk answer (λ x. TrueReport (setting_for x.0 x.1))
