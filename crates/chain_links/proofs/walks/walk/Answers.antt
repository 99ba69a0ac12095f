use Rattle.std.proofs.Common.{◌∙◌, ◌*◌, ◌-◌, arith, sym, refl}
use Rattle.std.proofs.lemmas.Bool.{false≢true}
use Rattle.chain_links.proofs.Passing.{come_kept, kept_of}
use Rattle.chain_links.proofs.Ways.{back_still, empty, few, first_low, first_node, goes_on, last, link_low, moved, next, on_chain, starts}
use Rattle.chain_links.proofs.walks.walk.Goals as goal

pub overflow_cast-first : goal.overflow_cast-first
overflow_cast-first c = omega (
  arith,
  first_low c.args.cell c.args.seat.now.view c.claim_word-first.ensures.law.sound c.requires.back,
  first_node c.number.result c.claim_word-first.result c.args.cell c.args.seat.now.view c.requires.back c.number.ensures c.claim_word-first.ensures.word,
)

pub links-init : goal.links-init
links-init c = starts
    c.args.cell (c.claim_word-first.result - 1) c.args.key c.node_words-words.result c.args.seat.now c.node_words-words.new.seat c.claim_word-first.ensures.law.sound c.node_words-words.ensures.law
    c.requires.back c.requires.unchanged
    (first_node c.number.result c.claim_word-first.result c.args.cell c.args.seat.now.view c.requires.back c.number.ensures c.claim_word-first.ensures.word) c.node_words-words.ensures.read

pub returns-then-next-clause-walked : goal.returns-then-next-clause-walked
returns-then-next-clause-walked c = empty c.links.invariant c.if-next.true

pub overflow_add-result : goal.overflow_add-result
overflow_add-result c = omega (arith, few c.links.invariant)

pub returns-then-next-eq0-clause-walked : goal.returns-then-next-eq0-clause-walked
returns-then-next-eq0-clause-walked c = last c.links.invariant c.if-next.false (λ q. false≢true (sym c.if-has_key.false ∙ c.has_key.ensures.1 q)) c.if-next-eq0.true

pub overflow_mul-first : goal.overflow_mul-first
overflow_mul-first c = omega (
  arith,
  first_low c.args.cell c.args.seat.now.view c.claim_word-first.ensures.law.sound c.requires.back,
  c.links.invariant.first_is,
  first_node c.number.result c.claim_word-first.result c.args.cell c.args.seat.now.view c.requires.back c.number.ensures c.claim_word-first.ensures.word,
)

pub overflow_cast-next : goal.overflow_cast-next
overflow_cast-next c = let n = next c.links.invariant _ c.if-next.false c.if-next-eq0.false refl in omega (arith, link_low c.links.invariant _ n)

pub read_link-requires-clause-ours : goal.read_link-requires-clause-ours
read_link-requires-clause-ours c = kept_of (come_kept c.args.cell (2 * (c.claim_word-first.result - 1)) c.links.at c.args.seat.now c.links.seat c.links.invariant.come) c.requires.ours

pub read_link-requires-clause-back : goal.read_link-requires-clause-back
read_link-requires-clause-back c = back_still c.links.invariant

pub read_link-requires-clause-page : goal.read_link-requires-clause-page
read_link-requires-clause-page c = on_chain c.links.invariant _ (next c.links.invariant _ c.if-next.false c.if-next-eq0.false refl)

pub returns-in-None-clause-walked : goal.returns-in-None-clause-walked
returns-in-None-clause-walked c = moved c.links.invariant _ c.read_link.new.seat (next c.links.invariant _ c.if-next.false c.if-next-eq0.false refl) c.in-None.ensures.turned

pub overflow_add-at : goal.overflow_add-at
overflow_add-at c = omega (arith, few c.links.invariant)

pub links-preserved : goal.links-preserved
links-preserved c = goes_on c.links.invariant _ c.in-Some.found c.read_link.new.seat (next c.links.invariant _ c.if-next.false c.if-next-eq0.false refl) c.if-next.false
    (λ q. false≢true (sym c.if-has_key.false ∙ c.has_key.ensures.1 q)) c.in-Some.ensures.turned c.in-Some.ensures.law
