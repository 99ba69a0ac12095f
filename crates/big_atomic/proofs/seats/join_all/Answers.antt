use Rattle.std.proofs.Common.{◌≡◌, ◌<◌, ℕ, ◌∷◌, ◌∙◌, ap, arith, length, slice_index_or, subst, sym}
use Rattle.std.proofs.lemmas.List.Elements.{All-tail}
use Rattle.std.specs.Vec.Iter.{into_iter_items}
use Rattle.big_atomic.proofs.Sharing.{joined_more, joined_whole, none_left, quiet_ready}
use Rattle.big_atomic.specs.Seats.{IsQuietOf, all_numbers, all_stands}
use Rattle.step_rules.specs.SeatData.{SeatData}
use Rattle.big_atomic.proofs.seats.join_all.Goals as goal

pub loop-seat-preserved : goal.loop-seat-preserved
loop-seat-preserved c =
    let was = c.loop-seat.invariant in
    let one = c.in-Some.seat in
    let rest = into_iter_items c.next.new.self in
    let steps : into_iter_items c.loop-seat.seat-iterator ≡ one ∷ rest = c.in-Some.ensures.steps.0 in
    let joined = c.join.ensures.joined in record {
      numbers = joined_more c.loop-seat.first.view.numbers c.join.new.into.view.numbers one.view.numbers (all_numbers rest) _ _
          (ap (λ (s : SeatData). s.view.numbers) joined.seat) (ap all_numbers steps) was.numbers;
      stands = joined_more c.loop-seat.first.view.stands c.join.new.into.view.stands one.view.stands (all_stands rest) _ _
          (ap (λ (s : SeatData). s.view.stands) joined.seat) (ap all_stands steps) was.stands;
      first = ap (λ (s : SeatData). s.first) joined.seat ∙ was.first;
      ours = record {
        ours = record {
          object = ap (λ (s : SeatData). s.object) joined.seat ∙ was.ours.ours.object;
          plan = ap (λ (s : SeatData). s.view.plan) joined.seat ∙ was.ours.ours.plan;
        };
        quiet = joined.quiet;
      };
      law = c.join.ensures.law;
      theirs = All-tail (IsQuietOf c.args.shared.now) one rest (subst (λ l. (k : ℕ) → (d : SeatData) → k < length l → IsQuietOf c.args.shared.now (slice_index_or l k d)) steps was.theirs);
      long = let gone = c.in-Some.ensures.steps.1 in let long = was.long in let short = ap length steps in omega arith;
    }

pub returns : goal.returns
returns c =
    let was = c.loop-seat.invariant in
    let none = none_left (into_iter_items c.loop-seat.seat-iterator) (sym was.long ∙ c.in-None.ensures.steps.0) in record {
      joined = record {
        numbers = joined_whole c.loop-seat.first.view.numbers (all_numbers (into_iter_items c.loop-seat.seat-iterator)) _ (ap all_numbers none) was.numbers;
        stands = joined_whole c.loop-seat.first.view.stands (all_stands (into_iter_items c.loop-seat.seat-iterator)) _ (ap all_stands none) was.stands;
        first = was.first;
        quiet = was.ours;
        ready = quiet_ready c.args.shared.now c.loop-seat.first was.ours.ours was.law was.ours.quiet;
      };
    }
