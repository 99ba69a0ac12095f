use Rattle.std.proofs.Common.{◌≡◌, ◌<◌, ◌+◌, ◌++◌, ◌∷◌, [], ◌∙◌, List, ℕ, append_assoc, append-nil, ap, arith, drop, get_or, length, refl, set, subst, sym}
use Rattle.std.proofs.Math.ListN.{drop_of_length-le}
use Rattle.std.proofs.lemmas.List.{get_or-drop, get_or-map, get_or_read_under, length-set}
use Rattle.seat_history.specs.declared.call.Call.TheVariants.{Load}
use Rattle.seat_history.specs.declared.entry.Entry.{Entry}
use Rattle.seat_history.specs.declared.reply.Reply.{Reply}
use Rattle.seat_history.specs.declared.reply.Reply.TheVariants.{Done}
use Rattle.tally_core.proofs.Coming.{drop_one}
use Rattle.tally_core.proofs.Merged.{Serves, caller_there, has_merged, left_next, left_of, merged, serves_rest, told_after, turn_there}
use Rattle.tally_core.specs.Workers.{Caller, replies_at}
use Rattle.tally_core.proofs.merging.merge_replies.Goals as goal

pub loop-line-preserved : goal.loop-line-preserved
loop-line-preserved c =
    let callers = c.args.callers.now in
    let next = c.loop-line.next.items in
    let was = c.loop-line.invariant in
    let rest = drop (c.loop-line.line-index + 1) c.args.lines.now in
    let line : Entry = get_or c.args.lines.now c.loop-line.line-index (record { caller = 0; call = Load 0 }) in
    let first : drop c.loop-line.line-index c.args.lines.now ≡ line ∷ rest = drop_one c.args.lines.now c.loop-line.line-index _ c.loop-line-test.true in
    let serves : Serves (left_of callers next) (line ∷ rest) = subst (Serves (left_of callers next)) first was.serves in
    let there = caller_there callers next line rest serves in
    let turn : c.index-turn.result.now ≡ get_or next line.caller 0 =
    get_or_read_under next line.caller (length next) c.index-turn.result.now 0 c.index-turn.ensures (omega (arith, there, was.long)) refl in
    let own = (get_or callers line.caller c.index-callers-caller.result).told.items in
    let replies : replies_at callers line.caller ≡ own = get_or-map (λ (z : Caller). z.told.items) callers line.caller c.index-callers-caller.result [] there in
    let n = get_or next line.caller 0 in
    let same : c.index-turn.result.now ≡ n + 0 = turn ∙ omega arith in
    let within : c.index-turn.result.now < length own = omega (arith, turn_there callers next line rest serves, turn, ap length replies) in
    let reply : c.index.result.now ≡ get_or (left_of callers next line.caller) 0 Done = get_or_read_under own c.index-turn.result.now (length own) c.index.result.now Done c.index.ensures within refl
    ∙ ((λ j. get_or (sym replies j) (same j) Done) ∙ sym (get_or-drop n (replies_at callers line.caller) 0 Done)) in
    let on : left_of callers (set next line.caller (c.index-turn.result.now + 1)) ≡ told_after (left_of callers next) line.caller =
    ap (λ m. left_of callers (set next line.caller (m + 1))) turn ∙ left_next callers next line.caller (omega (arith, there, was.long)) in
    let row : List Reply = c.loop-line.replies.items in
    let r = get_or (left_of callers next line.caller) 0 Done in record {
      long = length-set next line.caller (c.index-turn.result.now + 1) ∙ was.long;
      serves = subst (λ (f : ℕ → List Reply). Serves f rest) (sym on) (serves_rest (left_of callers next) line rest serves);
      told = ap (λ l. l ++ merged (left_of callers (set next line.caller (c.index-turn.result.now + 1))) rest Done) (c.in_ok-push.ensures.items ∙ ap (λ (z : Reply). row ++ z ∷ []) reply)
          ∙ (append_assoc row (r ∷ []) (merged (left_of callers (set next line.caller (c.index-turn.result.now + 1))) rest Done)
          ∙ (ap (λ (f : ℕ → List Reply). row ++ r ∷ merged f rest Done) on
          ∙ (ap (λ (l : List Entry). row ++ merged (left_of callers next) l Done) (sym first) ∙ was.told)));
    }

pub returns : goal.returns
returns c =
    let none = drop_of_length-le c.args.lines.now (omega (arith, c.loop-line-test.false)) in
    let row : c.loop-line.replies.items ≡ merged (replies_at c.args.callers.now) c.args.lines.now Done =
    sym (append-nil c.loop-line.replies.items) ∙ (ap (λ (l : List Entry). c.loop-line.replies.items ++ merged (left_of c.args.callers.now c.loop-line.next.items) l Done) (sym none)
    ∙ c.loop-line.invariant.told) in record {
      merged = has_merged (replies_at c.args.callers.now) c.args.lines.now Done c.loop-line.replies.items c.requires.all row;
    }
