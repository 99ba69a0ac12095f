-- What a parse reads of the program's arguments.
use Rattle.std.proofs.Common.{◌≡◌, ◌∙◌, ap, codes, true, Option, Some, None}
use Rattle.std.specs.Prelude.{IsSomeAnd}
use Rattle.clap.specs.Lexer.{usize_max}
use Rattle.clap.specs.Words.{Rule, Text, new_rule, rule_of}
use Rattle.clap.specs.declared.builder.arg.Arg.{Arg}
use Rattle.clap.specs.declared.builder.range.ValueRange.{ValueRange}
use Rattle.flow_tally.specs.Words.{files_rule, required_rule}

some_is : {X : Type 0} (o : Option X) (x : X) → IsSomeAnd o (λ r. r ≡ x) → o ≡ Some x
some_is None x h = absurd h
some_is (Some y) x h = ap (λ r. Some r) h

pub files_rule_is : (a b d : Arg) → rule_of a ≡ new_rule (codes "FILE") → b ≡ record a { required = true } → d ≡ record b { num_vals = d.num_vals }
    → IsSomeAnd d.num_vals (λ r. r ≡ record { start_inclusive = 1; end_inclusive = usize_max }) → rule_of d ≡ files_rule
files_rule_is a b d new req num range =
    let vals = some_is d.num_vals _ range in
    ap rule_of num
    ∙ ap (λ (x : Arg). rule_of (record x { num_vals = d.num_vals })) req
    ∙ ap (λ (r : Rule). record r { required = true; range = d.num_vals }) new
    ∙ ap (λ (v : Option ValueRange). record (new_rule (codes "FILE")) { required = true; range = v }) vals

pub required_rule_is : {id : Text} (a b : Arg) → rule_of a ≡ new_rule id → b ≡ record a { required = true } → rule_of b ≡ required_rule id
required_rule_is a b new req = ap rule_of req ∙ ap (λ (r : Rule). record r { required = true }) new
