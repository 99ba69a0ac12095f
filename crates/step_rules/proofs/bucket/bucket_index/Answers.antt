use Rattle.std.proofs.Common.{◌≡◌, ◌∙◌, ◌*◌, ◌/◌, ◌%◌, ◌^◌, ◌<◌, sym, ap, arith}
use Rattle.std.specs.Int.{rotate_left, w64}
use Rattle.std.specs.Prelude.{bit_xor}
use Rattle.seat_history.specs.Key.{key_number}
use Rattle.step_rules.proofs.Order.BucketOf.{high_word, low_word}
use Rattle.step_rules.specs.History.{bucket_of}
use Rattle.step_rules.proofs.bucket.bucket_index.Goals as goal

pub returns : goal.returns
unfolding bucket_of
returns c = record { index = λ i. bit_xor (sym (high_word c.args.key.k0 c.args.key.k1 low) i) (turned i) * 11400714819323198485 % 2 ^ 64 / 2 ^ 32 % c.from.ensures i }
  where
    low : c.args.key.k1 < 2 ^ 64
    low = let w = c.well_formed in omega arith

    turned : c.rotate_left.result ≡ rotate_left w64 (key_number c.args.key % 2 ^ 64) 32
    turned = c.rotate_left.ensures ∙ ap (λ n. rotate_left w64 n 32) (sym (low_word c.args.key.k0 c.args.key.k1 low))
