use Rattle.std.proofs.Common.{◌+◌, ◌∙◌, ℕ, List, [], ◌∷◌, ◌++◌, ap, arith, subst}
use Rattle.chain_links.proofs.Doing.{only_of}
use Rattle.chain_links.proofs.Following.{copy_more, copy_starts, follows, gives_up, has_next, has_room, last_still_held, none_announced, noted_only, passed_on, some_free, taken_only}
use Rattle.chain_links.proofs.Following.{unannounced_last}
use Rattle.chain_links.proofs.Ways.{first_low, first_node}
use Rattle.node_pool.specs.Pool.{IsFilled}
use Rattle.step_rules.specs.Records.{record_in}
use Rattle.chain_links.proofs.links.copy_to.Goals as goal

pub overflow_cast-first : goal.overflow_cast-first
overflow_cast-first c = omega (
  arith,
  first_low c.args.cell c.args.seat.now.view c.claim_word-first.ensures.law.sound c.requires.back,
  first_node c.number.result c.claim_word-first.result c.args.cell c.args.seat.now.view c.requires.back c.number.ensures c.claim_word-first.ensures.word,
)

pub links-init : goal.links-init
links-init c = record {
  within = omega arith;
  copying = copy_starts c.claim_word-first.ensures.law c.requires.back c.requires.unchanged (omega (arith, c.requires.within)) c.requires.idle c.requires.unnoted
      (first_node c.number.result c.claim_word-first.result c.args.cell c.args.seat.now.view c.requires.back c.number.ensures c.claim_word-first.ensures.word)
      c.node_words-words.ensures.read c.node_words-words.ensures.law.sound c.take-head.ensures.taken c.take-head.ensures.law;
}

pub follow-requires-clause-next : goal.follow-requires-clause-next
follow-requires-clause-next c = has_next c.links.invariant.copying (follows c.links.invariant.copying (omega (arith, c.requires.within, c.links-test.true)))

pub follow-requires-clause-room : goal.follow-requires-clause-room
follow-requires-clause-room c = has_room c.links.invariant.copying

pub follow-requires-clause-unannounced : goal.follow-requires-clause-unannounced
follow-requires-clause-unannounced c = none_announced c.links.invariant.copying

pub returns-in-None-clause-copied : goal.returns-in-None-clause-copied
returns-in-None-clause-copied c = gives_up c.links.invariant.copying (omega (arith, c.requires.within, c.links-test.true)) c.in-None.ensures.followed

pub take-next-requires-clause-ours : goal.take-next-requires-clause-ours
take-next-requires-clause-ours c =
    let p = passed_on c.links.invariant.copying (omega (arith, c.requires.within, c.links-test.true)) c.in-Some.ensures.followed c.in-Some.ensures.law in
    only_of (noted_only c.links.invariant.copying p) c.requires.ours

pub take-next-requires-clause-free : goal.take-next-requires-clause-free
take-next-requires-clause-free c =
    let p = passed_on c.links.invariant.copying (omega (arith, c.requires.within, c.links-test.true)) c.in-Some.ensures.followed c.in-Some.ensures.law in
    some_free c.links.invariant.copying p (omega (arith, c.requires.free, c.links-test.true))

pub fill-requires-clause-ours : goal.fill-requires-clause-ours
fill-requires-clause-ours c =
    let p = passed_on c.links.invariant.copying (omega (arith, c.requires.within, c.links-test.true)) c.in-Some.ensures.followed c.in-Some.ensures.law in
    only_of (taken_only c.links.invariant.copying p c.take-next.ensures.taken) c.requires.ours

pub fill-requires-clause-held : goal.fill-requires-clause-held
fill-requires-clause-held c =
    let p = passed_on c.links.invariant.copying (omega (arith, c.requires.within, c.links-test.true)) c.in-Some.ensures.followed c.in-Some.ensures.law in
    last_still_held c.links.invariant.copying p c.take-next.ensures.taken

pub fill-requires-clause-unannounced : goal.fill-requires-clause-unannounced
fill-requires-clause-unannounced c =
    let p = passed_on c.links.invariant.copying (omega (arith, c.requires.within, c.links-test.true)) c.in-Some.ensures.followed c.in-Some.ensures.law in
    unannounced_last c.links.invariant.copying c.take-next.new.seat (taken_only c.links.invariant.copying p c.take-next.ensures.taken)

pub links-preserved : goal.links-preserved
links-preserved c =
    let p = passed_on c.links.invariant.copying (omega (arith, c.requires.within, c.links-test.true)) c.in-Some.ensures.followed c.in-Some.ensures.law in
    let words = c.with_next.ensures ∙ ap (λ n. record_in c.links.words ++ (n + 1) ∷ []) c.from.ensures in
    let filled = subst (λ (ws : List ℕ). IsFilled c.links.last ws c.take-next.new.seat c.fill.new.seat) words c.fill.ensures.filled in record {
      within = omega (arith, c.links-test.true);
      copying = copy_more c.links.invariant.copying p c.take-next.ensures.taken c.take-next.ensures.law.sound filled c.fill.ensures.law (omega (arith, c.requires.within));
    }
