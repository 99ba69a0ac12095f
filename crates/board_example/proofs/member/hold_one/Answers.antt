use Rattle.std.proofs.Common.{◌∙◌, ap, not, refl, sym}
use Rattle.big_atomic.proofs.Adding.{answered_more, looked_more, released_more}
use Rattle.board_example.proofs.Making.{fits_elsewhere, kept_reading, kept_same}
use Rattle.board_example.proofs.member.hold_one.Goals as goal

pub returns-clause-works : goal.returns-clause-works
returns-clause-works c =
    let w = c.requires.works in
    let d = c.release_hold.ensures.released in
    let held = kept_same w.kept (answered_more c.hold.ensures.held.answered) ((λ words fit. sym (fits_elsewhere c.args.reg words c.requires.board) ∙ fit), tt) refl refl in
    let looked = kept_reading held (looked_more c.look-words.ensures.looked) (tt, tt) (not c.whole.result) _ c.more-member.ensures refl (ap not (sym c.whole.ensures)) in record {
      ready = c.release_hold.ensures.ready;
      none_held = d.none_held;
      kept = kept_same looked (released_more d) (tt, tt) refl refl;
    }
