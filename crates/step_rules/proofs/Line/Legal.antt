-- Along a closed line the object of one thread can be called.
use Rattle.std.proofs.Common.{◌≡◌, ℕ, ◌≤◌, false, List, [], ◌∷◌, Option, sym, subst, arith}
use Rattle.std.proofs.lemmas.Bool.{false≢true}
use Rattle.seat_history.specs.Contents.{Contents}
use Rattle.seat_history.specs.Object.{NamesBelow, Object, blank_object}
use Rattle.seat_history.specs.Step.{reply_to}
use Rattle.seat_history.specs.declared.call.Call.{Call}
use Rattle.seat_history.specs.declared.call.Call.TheVariants.{Load, Store, Swap, Hold}
use Rattle.seat_history.specs.declared.entry.Entry.{Entry}
use Rattle.seat_history.specs.declared.reply.Reply.{Reply}
use Rattle.seat_history.specs.declared.reply.Reply.TheVariants.{Full}
use Rattle.step_rules.proofs.Line.Lines.{Tells, line_tells}
use Rattle.step_rules.specs.Closing.{ClosedData, IsClosed}
use Rattle.step_rules.specs.History.{IsThere}
use Rattle.step_rules.specs.Lawful.{IsReply, is_full}
use Rattle.step_rules.specs.Line.{CanBeCalledAlong, Replays, after_stand, line_of, log_after}
use Rattle.step_rules.specs.SeatData.{IsSeat, SeatData}
use Rattle.step_rules.specs.declared.plan.Plan.{Plan}
use Rattle.step_rules.specs.declared.view.Stand.{Stand}

names_below : (p : Plan) (call : Call) → IsThere p call → NamesBelow p.registers call
names_below p (Load reg) there = there
names_below p (Store reg new) there = there
names_below p (Swap reg old new) there = there
names_below p (Hold reg) there = there
names_below p _ there = tt

reply_is : (p : Plan) (stock : ℕ) (c : Contents) (log : List Entry) (held : Option (List ℕ)) (call : Call) (reply : Reply) → IsReply p stock c log held call reply
    → is_full reply ≡ false → reply_to c held call ≡ reply
reply_is p stock c log held call (Full need free) right other = absurd (false≢true (sym other))
reply_is p stock c log held call _ right other = right

called_along : (p : Plan) (history : List Entry) (object : Object) (log : List Entry) (line : List Stand) → p.seats ≤ 64 → Replays p object log line → Tells p history object log line
    → CanBeCalledAlong p.registers object line
called_along p history object log [] few replays tells = tt
called_along p history object log (s ∷ line) few replays tells =
    let by = tells.0 in (
      record {
        caller = omega arith;
        register = names_below p s.call replays.0.legal.there;
        held = replays.0.legal.may;
        reply = reply_is p s.stock object.contents log (object.held s.by) s.call s.reply replays.0.reply;
      },
      called_along p history (after_stand object s) (log_after log object s) line few replays.1 tells.3,
    )

pub line_called : (seat : SeatData) (closed : ClosedData) → IsSeat seat → IsClosed seat closed
    → CanBeCalledAlong closed.plan.registers blank_object (line_of closed.plan.seats closed.history closed.stands)
line_called seat closed law is =
    let few : closed.plan.seats ≤ 64 = subst (λ (p : Plan). p.seats ≤ 64) (sym is.plan) law.sound.plan.seats.1 in
    called_along closed.plan closed.history blank_object [] (line_of closed.plan.seats closed.history closed.stands) few is.line.replays
    (line_tells closed.plan seat.view.numbers closed.history closed.stands is.whole is.lawful is.callers)
