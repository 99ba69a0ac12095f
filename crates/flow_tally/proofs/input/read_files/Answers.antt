use Rattle.std.specs.Prelude.{map, slice_get, Ok, Err}
use Rattle.std.specs.String.{string_bytes}
use Rattle.std.proofs.Common.{◌≡◌, ℕ, ◌+◌, List, Some, refl, subst, arith, ◌∙◌}
use Rattle.std.proofs.lemmas.List.{length-map}
use Rattle.flow_tally.specs.Input.{FeedShown, IsReadOut, feed_shown}
use Rattle.flow_tally.specs.Reading.{AddsFile}
use Rattle.flow_tally.proofs.Inputs.{none_so_far, file_so_far, all_so_far, file_refused}
use Rattle.flow_tally.proofs.Lists.{get-map}
use Rattle.flow_tally.proofs.input.read_files.Goals as goal

pub loop-name-init : goal.loop-name-init
loop-name-init g c = record {
  read = none_so_far _ _ _ c.new-gathered.ensures;
  number = refl;
  files = refl;
  out = record { last = λ none. absurd (omega arith); started = λ none. absurd (omega arith); none_left = λ none. absurd (omega arith); no_fault = refl; no_failure = refl };
}

pub loop-name-preserved : goal.loop-name-preserved
loop-name-preserved g c =
    let F = g.F.Feed in
    let index = c.loop-name.name-index in
    let shown = feed_shown F.files F.faults F.failed F.current F.started F.left F.given c.args.feed.now c.add_file.new.feed in
    let there : slice_get (map string_bytes c.args.files.now) index ≡ Some (string_bytes c.name-item.result) =
    get-map string_bytes c.args.files.now index c.name-item.result c.loop-name-test.true c.name-item.is in
    let number : c.in-Some.next ≡ index + 1 = omega (arith, c.in-Some.ensures, c.loop-name.invariant.number) in
    let adds : AddsFile c.loop-name.left shown (string_bytes c.name-item.result) c.in-Some.next c.loop-name.gathered c.add_file.new.gathered (Ok c.in-Ok-add_file.n) =
    subst (λ (p : FeedShown × List ℕ). AddsFile c.loop-name.left p.0 p.1 c.in-Some.next c.loop-name.gathered c.add_file.new.gathered (Ok c.in-Ok-add_file.n))
    (λ i. (
      record shown { names = c.loop-name.invariant.files i; before = c.loop-name.invariant.out.no_fault i; failed_before = c.loop-name.invariant.out.no_failure i },
      c.as_str.ensures.value i,
    )) c.in-Ok-add_file.ensures.file in
    record {
      read = file_so_far shown _ index c.loop-name.left c.in-Ok-add_file.n _ c.in-Some.next c.loop-name.gathered c.add_file.new.gathered there c.loop-name.invariant.read adds;
      number = number;
      files = c.in-Ok-add_file.ensures.files ∙ c.loop-name.invariant.files;
      out = subst (λ (n : ℕ). IsReadOut n shown) number adds.7;
    }

pub returns-in-Err-clause-read : goal.returns-in-Err-clause-read
returns-in-Err-clause-read g c =
    let F = g.F.Feed in
    let index = c.loop-name.name-index in
    let shown = feed_shown F.files F.faults F.failed F.current F.started F.left F.given c.args.feed.now c.add_file.new.feed in
    let there : slice_get (map string_bytes c.args.files.now) index ≡ Some (string_bytes c.name-item.result) =
    get-map string_bytes c.args.files.now index c.name-item.result c.loop-name-test.true c.name-item.is in
    let adds : AddsFile c.loop-name.left shown (string_bytes c.name-item.result) c.in-Some.next c.loop-name.gathered c.add_file.new.gathered (Err c.in-Err.status) =
    subst (λ (p : FeedShown × List ℕ). AddsFile c.loop-name.left p.0 p.1 c.in-Some.next c.loop-name.gathered c.add_file.new.gathered (Err c.in-Err.status))
    (λ i. (
      record shown { names = c.loop-name.invariant.files i; before = c.loop-name.invariant.out.no_fault i; failed_before = c.loop-name.invariant.out.no_failure i },
      c.as_str.ensures.value i,
    )) c.in-Err.ensures.file in
    file_refused shown _ index c.loop-name.left _ c.in-Some.next c.loop-name.gathered c.add_file.new.gathered c.in-Err.status there
    (omega (arith, c.in-Some.ensures, c.loop-name.invariant.number)) c.in-Err.ensures.current c.loop-name.invariant.read adds

pub returns-clause-read : goal.returns-clause-read
returns-clause-read g c = all_so_far _ _ c.loop-name.name-index c.loop-name.left c.loop-name.gathered
    (omega (arith, length-map c.args.files.now string_bytes, c.loop-name-test.false, c.loop-name.auto)) c.loop-name.invariant.read c.loop-name.invariant.out
