use Rattle.std.proofs.Common.{rules, ◌+◌, ◌*◌}
use Rattle.cache_copy.proofs.Copying.{copied_at, written_at}
use Rattle.cache_copy.proofs.refreshing.refresh.Goals as goal

pub returns-then-word-from-clause-answer : goal.returns-then-word-from-clause-answer
returns-then-word-from-clause-answer c =
    let before = c.args.seat.now in
    let clear = c.mark_clear-word in (
      clear.result,
      search rules,
      copied_at c.args.cell c.args.node c.args.version clear.result before c.version_release.new.seat clear.new.seat c.law.ensures.sound c.requires.flight
          (search rules) (search rules)
          (written_at c.args.cell c.args.version before c.version_lock-found.new.seat c.copy_words.new.seat c.version_release.new.seat
          (c.version_lock-found.ensures.won (search rules))
          c.copy_words.ensures.copied c.version_release.ensures.seat) clear.ensures.seat,
    )

pub returns-clause-answer : goal.returns-clause-answer
returns-clause-answer c =
    let before = c.args.seat.now in
    let clear = c.mark_clear-word in
    copied_at c.args.cell c.args.node c.args.version (2 * c.args.node + 1) before c.version_release.new.seat clear.new.seat c.law.ensures.sound
    c.requires.flight (search rules) (search rules)
    (written_at c.args.cell c.args.version before c.version_lock-found.new.seat c.copy_words.new.seat c.version_release.new.seat
    (c.version_lock-found.ensures.won (search rules))
    c.copy_words.ensures.copied c.version_release.ensures.seat) (search rules)
