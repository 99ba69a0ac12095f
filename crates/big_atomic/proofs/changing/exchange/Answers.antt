use Rattle.big_atomic.proofs.Exchanging.{front_again, lost_first, lost_second, noted_again, won_first, won_second}
use Rattle.big_atomic.proofs.changing.exchange.Goals as goal

pub returns-then-found-word-clause-exchanged : goal.returns-then-found-word-clause-exchanged
returns-then-found-word-clause-exchanged c = won_first c.requires.law.sound c.backup_exchange-found.ensures.law.sound (c.backup_exchange-found.ensures.won c.if-found-word.true)

pub returns-then-found-word-2-clause-exchanged : goal.returns-then-found-word-2-clause-exchanged
returns-then-found-word-2-clause-exchanged c = lost_first c.requires.law.sound c.backup_exchange-found.ensures.law.sound
    c.requires.found c.if-found-word-2.true (c.backup_exchange-found.ensures.lost c.if-found-word.false)

pub returns-then-again-found-clause-exchanged : goal.returns-then-again-found-clause-exchanged
returns-then-again-found-clause-exchanged c = won_second c.requires.law.sound c.backup_exchange-found.ensures.law.sound c.if-found-word.false c.if-found-word-2.false
    (c.backup_exchange-found.ensures.lost c.if-found-word.false) c.backup_exchange-again.ensures.law.sound (c.backup_exchange-again.ensures.won c.if-again-found.true)

pub returns-else-again-found-clause-exchanged : goal.returns-else-again-found-clause-exchanged
returns-else-again-found-clause-exchanged c = lost_second c.requires.law.sound c.backup_exchange-found.ensures.law.sound c.if-found-word.false c.if-found-word-2.false
    (c.backup_exchange-found.ensures.lost c.if-found-word.false) c.requires.may c.requires.found c.backup_exchange-again.ensures.law.sound c.if-again-found.false
    (c.backup_exchange-again.ensures.lost c.if-again-found.false)

-- the same nodes are held at the second try
pub backup_exchange-again-requires-clause-front : goal.backup_exchange-again-requires-clause-front
backup_exchange-again-requires-clause-front c = front_again c.args.call (c.backup_exchange-found.ensures.lost c.if-found-word.false) c.requires.front

pub backup_exchange-again-requires-clause-noted : goal.backup_exchange-again-requires-clause-noted
backup_exchange-again-requires-clause-noted c = noted_again c.args.call (c.backup_exchange-found.ensures.lost c.if-found-word.false) c.requires.noted
