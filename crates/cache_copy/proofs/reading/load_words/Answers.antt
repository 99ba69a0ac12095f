use Rattle.std.proofs.Common.{rules, ◌≡◌, ◌+◌, set, sym, subst, arith}
use Rattle.cache_copy.proofs.Loading.{IsReading, all_loaded, may_read, none_loaded, one_loaded, reading_of}
use Rattle.step_rules.specs.SeatData.{IsSeat}
use Rattle.step_rules.specs.declared.layout.TheConstants.{NODE_WIDTH}
use Rattle.cache_copy.proofs.reading.load_words.Goals as goal

pub loop-j-init : goal.loop-j-init
loop-j-init c = none_loaded c.args.cell _ c.args.seat.now (search rules) c.requires.begun.none_read

pub inline_load-requires-clause-ours : goal.inline_load-requires-clause-ours
inline_load-requires-clause-ours c = reading_of c.args.cell c.loop-j.word-items c.loop-j.j c.args.seat.now c.loop-j.seat c.args.shared.now c.loop-j.invariant
    c.requires.ours

pub inline_load-requires-clause-may : goal.inline_load-requires-clause-may
inline_load-requires-clause-may c = may_read c.args.cell c.loop-j.word-items c.loop-j.j c.args.seat.now c.loop-j.seat c.requires.begun c.loop-j.invariant
    c.loop-j-test.true

pub loop-j-preserved : goal.loop-j-preserved
loop-j-preserved c =
    let cell = c.args.cell in
    let words = c.loop-j.word-items in
    let j = c.loop-j.j in
    let word = c.inline_load.result in
    let old = c.args.seat.now in
    subst (IsReading cell (set words j word) (j + 1) old) (sym c.inline_load.ensures.seat)
    (one_loaded cell words j word old c.loop-j.seat (subst IsSeat c.inline_load.ensures.seat c.inline_load.ensures.law) c.loop-j-test.true c.loop-j.invariant)

pub returns-clause-loaded : goal.returns-clause-loaded
returns-clause-loaded c =
    let cell = c.args.cell in
    let words = c.loop-j.word-items in
    let old = c.args.seat.now in
    let low = c.loop-j-test.false in
    let high = c.loop-j.auto.j-end in
    let end : c.loop-j.j ≡ NODE_WIDTH = omega arith in
    all_loaded cell words old c.loop-j.seat (subst (λ j. IsReading cell words j old c.loop-j.seat) end c.loop-j.invariant)

pub returns-clause-law : goal.returns-clause-law
returns-clause-law c = let low = c.loop-j-test.false in c.loop-j.invariant.law (omega arith)
