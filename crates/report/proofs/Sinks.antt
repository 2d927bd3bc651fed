-- What each sink does with a whole text. Assumes nothing.
use Rattle.std.proofs.Common.{ℕ, ◌<◌, ◌≤◌, List, [], ◌++◌, length, Some, None, Option, sym, refl, ◌∙◌, arith, length-append}
use Rattle.std.specs.Prelude.{MatchBool}
use Rattle.std.specs.Option.{is_some}
use Rattle.std.proofs.lemmas.Option.{none-some}
use Rattle.report.specs.declared.sink.lent.Lent.{Lent}
use Rattle.report.specs.declared.sink.room.Room.{Room}
use Rattle.report.specs.Sinks.{TookAll, TakenOff, Measured, Wrote}
use Rattle.report.specs.Sinks.TookAll.{nothing, further}
use Rattle.report.proofs.Puts.{put_none, put_then}

off_nothing : (room : Option ℕ) → TakenOff room [] room
off_nothing None = refl
off_nothing (Some n) = omega arith

off_then : (room mid left : Option ℕ) (a b : List ℕ) → TakenOff room a mid → TakenOff mid b left → TakenOff room (a ++ b) left
off_then None None left a b p q = q
off_then None (Some m) left a b p q = absurd (none-some m (sym p))
off_then (Some n) None None a b p q = omega (arith, length-append a b, p)
off_then (Some n) None (Some l) a b p q = absurd (none-some l (sym q))
off_then (Some n) (Some m) None a b p q = omega (arith, length-append a b, p, q)
off_then (Some n) (Some m) (Some l) a b p q = omega (arith, length-append a b, p, q)

-- a text is measured as one piece would be
pub measured_all : {text : List ℕ} {before after : Room} → TookAll Measured before text after → Measured before text after
measured_all {before = s} nothing = off_nothing s.left
measured_all {before = s} {after = u} (further {t = t} {text = a} {piece = b} p q) = off_then s.left t.left u.left a b (measured_all p) q

-- the text fits where something is left of the room, be it nothing more than 0; a part of the text may have used the room up
pub off_fits : (room most : ℕ) (text part : List ℕ) (left : Option ℕ) → TakenOff (Some room) text left → TakenOff (Some room) part left → length part ≤ most
    → MatchBool (is_some left) (length text ≤ room) ((room < length text) × (room < most))
off_fits room most text part None h p k = (h, omega (arith, p, k))
off_fits room most text part (Some n) h p k = omega arith

-- a text is written as one piece would be
pub wrote_all : {text : List ℕ} {before after : Lent} → TookAll Wrote before text after → Wrote before text after
wrote_all {before = s} nothing = record { put = λ h. put_none s.at s.out.now; size = refl; lender = refl }
wrote_all (further {text = a} {piece = b} p q) =
    let done = wrote_all p in
    record {
      put = λ h.
          let first = done.put (omega (arith, h, length-append a b)) in
          put_then first (q.put (omega (arith, h, length-append a b, first.place, done.size)));
      size = q.size ∙ done.size;
      lender = q.lender ∙ done.lender;
    }
