use Rattle.std.proofs.Common.{◌||◌, ◌==◌, ap, refl}
use Rattle.big_atomic.proofs.Adding.{answered_more, none_after}
use Rattle.board_example.proofs.Making.{kept_same}
use Rattle.board_example.proofs.member.publish.Goals as goal

pub returns : goal.returns
returns c =
    let w = c.requires.works in
    let e = c.store.ensures.stored in
    let m = answered_more e.answered in record {
      works = record {
        ready = c.store.ensures.ready;
        none_held = none_after e.hold w.none_held;
        kept = kept_same w.kept m (ap (λ b. b || (c.args.reg == 0)) c.reading-words.ensures, c.requires.board) refl refl;
      };
      stays = m.stays;
    }
