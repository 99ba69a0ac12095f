use Rattle.std.proofs.Common.{◌*◌, ◌-◌, arith, subst}
use Rattle.std.specs.Prelude.{slice_index}
use Rattle.chain_links.proofs.Doing.{only_passed, only_strayed, strayed_holding}
use Rattle.chain_links.proofs.Following.{link_still, next_low, on_first, unannounced_through}
use Rattle.chain_links.proofs.Ways.{first_low, first_node}
use Rattle.chain_links.specs.Walking.{HasPassed, HasStrayed}
use Rattle.seat_history.specs.declared.words.TheConstants.{WIDTH}
use Rattle.chain_links.proofs.links.follow.Goals as goal

pub overflow_cast-link : goal.overflow_cast-link
overflow_cast-link c = omega (arith, next_low c.args.cell c.args.words c.args.seat.now c.claim_word-first.ensures.law.sound c.requires.back c.requires.next, c.requires.next.named)

pub overflow_mul-first : goal.overflow_mul-first
overflow_mul-first c = omega (
  arith,
  first_low c.args.cell c.args.seat.now.view c.claim_word-first.ensures.law.sound c.requires.back,
  first_node c.number.result c.claim_word-first.result c.args.cell c.args.seat.now.view c.requires.back c.number.ensures c.claim_word-first.ensures.word,
)

pub read_link-requires-clause-back : goal.read_link-requires-clause-back
read_link-requires-clause-back c =
    (c.requires.back, omega (arith, first_node c.number.result c.claim_word-first.result c.args.cell c.args.seat.now.view c.requires.back c.number.ensures c.claim_word-first.ensures.word))

pub put_back_all-requires-clause-unannounced : goal.put_back_all-requires-clause-unannounced
put_back_all-requires-clause-unannounced c =
    unannounced_through c.claim_word-first.ensures.law.sound c.requires.unannounced (only_strayed c.in-None.ensures.turned) (strayed_holding c.in-None.ensures.turned)

pub note_link-requires-clause-link : goal.note_link-requires-clause-link
note_link-requires-clause-link c = link_still c.args.words (only_passed c.claim_word-first.ensures.law.sound c.in-Some.ensures.turned) c.requires.next

pub returns-in-None-clause-followed : goal.returns-in-None-clause-followed
returns-in-None-clause-followed c = λ first on. record {
  strayed = c.read_link.new.seat;
  strays = subst (λ n. HasStrayed c.args.cell (2 * n) (slice_index c.args.words WIDTH - 1) c.args.seat.now c.read_link.new.seat)
      (on_first c.number.result c.claim_word-first.result first c.args.seat.now.view on c.number.ensures c.claim_word-first.ensures.word) c.in-None.ensures.turned;
  frees = c.put_back_all.ensures.free;
}

pub returns-in-Some-clause-followed : goal.returns-in-Some-clause-followed
returns-in-Some-clause-followed c = λ first on. record {
  passed = c.read_link.new.seat;
  passes = subst (λ n. HasPassed c.args.cell (2 * n) (record { node = slice_index c.args.words WIDTH - 1; words = c.in-Some.found }) c.args.seat.now c.read_link.new.seat)
      (on_first c.number.result c.claim_word-first.result first c.args.seat.now.view on c.number.ensures c.claim_word-first.ensures.word) c.in-Some.ensures.turned;
  notes = c.note_link.ensures.noted;
}
