use Rattle.std.proofs.Common.{arith}
use Rattle.chain_links.proofs.Copies.{copies, reads_first, room_one, room_two}
use Rattle.chain_links.proofs.Ways.{first_low, first_node}
use Rattle.chain_links.proofs.fronts.copy_inserted.Goals as goal

pub overflow_cast-first : goal.overflow_cast-first
overflow_cast-first c = omega (
  arith,
  first_low c.args._cell c.args.seat.now.view c.claim_word-first.ensures.law.sound c.requires.back,
  first_node c.number.result c.claim_word-first.result c.args._cell c.args.seat.now.view c.requires.back c.number.ensures c.claim_word-first.ensures.word,
)

pub put_before-requires-clause-one : goal.put_before-requires-clause-one
put_before-requires-clause-one c = room_one
    (reads_first c.claim_word-first.ensures.law c.requires.back c.requires.idle c.number.ensures c.claim_word-first.ensures.word c.node_words-words.ensures.read) c.requires.free.0

pub put_before-requires-clause-two : goal.put_before-requires-clause-two
put_before-requires-clause-two c = room_two
    (reads_first c.claim_word-first.ensures.law c.requires.back c.requires.idle c.number.ensures c.claim_word-first.ensures.word c.node_words-words.ensures.read) c.requires.free.1

pub returns-clause-copied : goal.returns-clause-copied
returns-clause-copied c = copies
    (reads_first c.claim_word-first.ensures.law c.requires.back c.requires.idle c.number.ensures c.claim_word-first.ensures.word c.node_words-words.ensures.read)
    c.put_before.ensures.law c.put_before.ensures.alone c.put_before.ensures.beside
