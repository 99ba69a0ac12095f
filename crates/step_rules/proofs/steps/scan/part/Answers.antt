use Rattle.std.proofs.Common.{◌+◌, ◌<◌, ◌++◌, filter, length, not, ltb, ◌&&◌, append-nil, refl, sym, ap, ◌∙◌, subst, arith}
use Rattle.std.proofs.lemmas.List.{take_all}
use Rattle.std.proofs.lemmas.List.Filters.{FiltersInPlace-all}
use Rattle.std.proofs.lemmas.List.Sorted.{IsNonDecreasingBy-from_sort}
use Rattle.std.specs.List.Sorted.{IsNonDecreasing}
use Rattle.step_rules.proofs.Ties.Parting.{Parted, frees_first, frees_test, parted_free, parted_kept, parted_read, parted_room}
use Rattle.step_rules.specs.World.{has}
use Rattle.step_rules.proofs.steps.scan.part.Goals as goal

pub loop-i-init : goal.loop-i-init
loop-i-init c = record {
  parted = record { kept = record { front = refl; rest = refl; behind = omega arith; within = omega arith; long = refl }; freed = sym (append-nil c.args.free.now.items) };
  room_retired = refl;
  room_free = refl;
}

pub frees-requires : goal.frees-requires
frees-requires c = subst (λ l. IsNonDecreasing l) (sym c.deref.ensures.value) (IsNonDecreasingBy-from_sort (λ x. x) c.sort_unstable.new.self.items c.sort_unstable.ensures.sorted)

pub push_reserved-requires : goal.push_reserved-requires
push_reserved-requires c = let p = parted_room _ _ _ _ _ _ _ c.loop-i.invariant.parted in omega arith

pub index_mut-requires : goal.index_mut-requires
index_mut-requires c = let k = c.loop-i.invariant.parted.kept in let b = k.behind in let l = k.long in omega arith

pub overflow_add-kept : goal.overflow_add-kept
overflow_add-kept c = let k = c.loop-i.invariant.parted.kept in let b = k.behind in omega arith

pub loop-i-preserved : goal.loop-i-preserved
loop-i-preserved c =
    let p = c.loop-i.invariant.parted in
    let x = c.index-node.result.now in
    let long = p.kept.long in
    let inside : c.loop-i.i < length c.args.retired.now.items = omega arith in
    let tells = frees_test c.args.old c.loop-i.i x c.args.retired.now.items c.args.found.now.items c.sort_unstable.new.self.items c.frees.result c.requires.once inside
    (parted_read _ _ _ _ _ _ _ p x inside c.index-node.ensures) c.sort_unstable.ensures.permutation (c.frees.ensures ∙ ap (λ l. ltb c.loop-i.i c.args.old && not (has l x)) c.deref.ensures.value) in
    elim c.if-frees.branch [
      | goal.then-frees w ↦ rw (w.retired-is, w.free-is, w.kept-is) (record {
        parted = subst
            (λ l. Parted (frees_first c.args.old c.args.retired.now.items c.args.found.now.items) c.args.retired.now.items c.loop-i.retired.items c.args.free.now.items l c.loop-i.kept
            (c.loop-i.i + 1)) (sym w.push_reserved.ensures.items)
            (parted_free _ _ _ _ _ _ _ p x inside c.index-node.ensures (tells ∙ w.if-frees.true));
        room_retired = c.loop-i.invariant.room_retired;
        room_free = w.push_reserved.ensures.capacity ∙ c.loop-i.invariant.room_free;
      })
      | goal.else-frees w ↦ rw (w.retired-is, w.free-is, w.kept-is) (record {
        parted = parted_kept _ _ _ _ _ _ _ p x inside c.index-node.ensures (tells ∙ w.if-frees.false);
        room_retired = c.loop-i.invariant.room_retired;
        room_free = c.loop-i.invariant.room_free;
      })
    ]

pub returns-clause-retired : goal.returns-clause-retired
returns-clause-retired c = c.truncate.ensures.items ∙ FiltersInPlace-all c.loop-i.invariant.parted.kept (omega arith)

pub returns-clause-free : goal.returns-clause-free
returns-clause-free c = c.loop-i.invariant.parted.freed
    ∙ ap (λ l. c.args.free.now.items ++ filter (frees_first c.args.old c.args.retired.now.items c.args.found.now.items) l) (take_all _ _ (omega arith))
