use Rattle.std.proofs.Common.{◌≡◌, ◌+◌, ◌%◌, ◌^◌, min, max, arith}
use Rattle.std.proofs.lemmas.Nat.{or_comm}
use Rattle.flow_fold.proofs.Bits.{or_assoc}
use Rattle.flow_fold.proofs.value.merge.Goals as goal

pub returns-clause-commutes : goal.returns-clause-commutes
returns-clause-commutes c =
    let a = c.args.a in
    let b = c.args.b in
    let packets : (a.packets + b.packets) % 2 ^ 64 ≡ (b.packets + a.packets) % 2 ^ 64 = omega arith in
    let octets : (a.octets + b.octets) % 2 ^ 64 ≡ (b.octets + a.octets) % 2 ^ 64 = omega arith in
    let first : min a.first b.first ≡ min b.first a.first = omega arith in
    let last : max a.last b.last ≡ max b.last a.last = omega arith in
    λ i. record { packets = packets i; octets = octets i; first = first i; last = last i; flags = or_comm a.flags b.flags i }

pub returns-clause-associates : goal.returns-clause-associates
returns-clause-associates c = λ d.
    let a = c.args.a in
    let b = c.args.b in
    let packets : ((a.packets + b.packets) % 2 ^ 64 + d.packets) % 2 ^ 64 ≡ (a.packets + (b.packets + d.packets) % 2 ^ 64) % 2 ^ 64 = omega arith in
    let octets : ((a.octets + b.octets) % 2 ^ 64 + d.octets) % 2 ^ 64 ≡ (a.octets + (b.octets + d.octets) % 2 ^ 64) % 2 ^ 64 = omega arith in
    let first : min (min a.first b.first) d.first ≡ min a.first (min b.first d.first) = omega arith in
    let last : max (max a.last b.last) d.last ≡ max a.last (max b.last d.last) = omega arith in
    λ i. record { packets = packets i; octets = octets i; first = first i; last = last i; flags = or_assoc a.flags b.flags d.flags i }
