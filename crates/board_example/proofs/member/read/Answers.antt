use Rattle.std.proofs.Common.{◌∙◌, ap, not, refl, sym}
use Rattle.big_atomic.proofs.Adding.{answered_more, none_after}
use Rattle.board_example.proofs.Making.{fits_elsewhere, kept_reading}
use Rattle.board_example.proofs.member.read.Goals as goal

pub returns : goal.returns
returns c =
    let w = c.requires.works in
    let e = c.load-words.ensures.loaded in
    let m = answered_more e.answered in record {
      works = record {
        ready = c.load-words.ensures.ready;
        none_held = none_after e.hold w.none_held;
        kept = kept_reading w.kept m (tt, tt) (not c.whole.result) _ c.more-member.ensures refl (ap not (fits_elsewhere c.args.reg c.load-words.result c.requires.board ∙ sym c.whole.ensures));
      };
      stays = m.stays;
    }
