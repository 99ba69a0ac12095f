-- Addresses, keys, values and flows by the numbers that they are spelled with.
use Rattle.std.proofs.Common.{◌≡◌, ℕ, ◌+◌, ◌*◌, ◌/◌, ◌%◌, ◌<◌, ◌≤◌, ◌^◌, List, append_assoc, ap, refl, arith}
use Rattle.flow_fold.specs.declared.key.Key.{Key}
use Rattle.flow_fold.specs.declared.value.Value.{Value}
use Rattle.flow_report.specs.Ranges.{IsKeyInRange, IsValueInRange, IsFlowInRange}
use Rattle.flow_report.specs.Text.{number_then, dotted, address_text, key_text, value_text, flow_line, words_then, space, dot, line_feed}
use Rattle.flow_report.proofs.Spellings.{spelled_after, BothIn, IsSpelledBy, IsPrefixFree, numbers_prefix_free, pairs_prefix_free, parts_prefix_free}

abbrev pub IsByte : ℕ → Type 0
IsByte n = n ≤ 255

abbrev pub IsPort : ℕ → Type 0
IsPort n = n ≤ 65535

abbrev pub IsAddress : ℕ → Type 0
IsAddress n = n < 2 ^ 32

abbrev pub IsCount : ℕ → Type 0
IsCount n = n ≤ 18446744073709551615

-- the four bytes of an address
abbrev pub address_parts : ℕ → ℕ × (ℕ × (ℕ × ℕ))
address_parts a = (a / 2 ^ 24, (a / 2 ^ 16 % 2 ^ 8, (a / 2 ^ 8 % 2 ^ 8, a % 2 ^ 8)))

abbrev pub four_bytes : ℕ × (ℕ × (ℕ × ℕ)) → List ℕ
four_bytes = spelled_after (number_then dot) (spelled_after (number_then dot) (spelled_after (number_then dot) (number_then space)))

abbrev pub AreBytes : ℕ × (ℕ × (ℕ × ℕ)) → Type 0
AreBytes = BothIn IsByte (BothIn IsByte (BothIn IsByte IsByte))

pub address_by_parts : IsSpelledBy address_text IsAddress address_parts four_bytes AreBytes
unfolding address_text dotted spelled_after
address_by_parts = record {
  spelled = λ a. simp append_assoc;
  in_range = λ a lt. record { first = omega arith; second = record { first = omega arith; second = record { first = omega arith; second = omega arith } } };
}

-- an address from its four bytes
pub address_from_bytes : (x a b c d : ℕ) → x ≡ a * 2 ^ 24 + b * 2 ^ 16 + c * 2 ^ 8 + d → a ≤ 255 → b ≤ 255 → c ≤ 255 → d ≤ 255 → address_parts x ≡ (a, (b, (c, d)))
address_from_bytes x a b c d is a_in b_in c_in d_in =
    let first : x / 2 ^ 24 ≡ a = omega arith in
    let second : x / 2 ^ 16 % 2 ^ 8 ≡ b = omega arith in
    let third : x / 2 ^ 8 % 2 ^ 8 ≡ c = omega arith in
    let fourth : x % 2 ^ 8 ≡ d = omega arith in
    λ i. (first i, (second i, (third i, fourth i)))

same_address : (x y : ℕ) → address_parts x ≡ address_parts y → x ≡ y
same_address x y is =
    let first : x / 2 ^ 24 ≡ y / 2 ^ 24 = ap (λ (p : ℕ × (ℕ × (ℕ × ℕ))). p.0) is in
    let second : x / 2 ^ 16 % 2 ^ 8 ≡ y / 2 ^ 16 % 2 ^ 8 = ap (λ (p : ℕ × (ℕ × (ℕ × ℕ))). p.1.0) is in
    let third : x / 2 ^ 8 % 2 ^ 8 ≡ y / 2 ^ 8 % 2 ^ 8 = ap (λ (p : ℕ × (ℕ × (ℕ × ℕ))). p.1.1.0) is in
    let fourth : x % 2 ^ 8 ≡ y % 2 ^ 8 = ap (λ (p : ℕ × (ℕ × (ℕ × ℕ))). p.1.1.1) is in
    omega arith

pub bytes_free : (after : ℕ) → after < 48 → IsPrefixFree (number_then after) IsByte
bytes_free after low = numbers_prefix_free after 255 low (omega arith)

pub ports_free : IsPrefixFree (number_then space) IsPort
ports_free = numbers_prefix_free space 65535 (omega arith) (omega arith)

pub counts_free : IsPrefixFree (number_then space) IsCount
counts_free = numbers_prefix_free space 18446744073709551615 (omega arith) (omega arith)

pub last_counts_free : IsPrefixFree (number_then line_feed) IsCount
last_counts_free = numbers_prefix_free line_feed 18446744073709551615 (omega arith) (omega arith)

pub addresses_free : IsPrefixFree address_text IsAddress
addresses_free =
    let dots = bytes_free dot (omega arith) in
    parts_prefix_free address_by_parts same_address (pairs_prefix_free dots (pairs_prefix_free dots (pairs_prefix_free dots (bytes_free space (omega arith)))))

-- the seven numbers of a key
abbrev pub KeyParts : Type 0
KeyParts = ℕ × (ℕ × (ℕ × (ℕ × (ℕ × (ℕ × ℕ)))))

abbrev pub key_parts : Key → KeyParts
key_parts k = (k.k0 / 2 ^ 32, (k.k0 % 2 ^ 32, (k.k1 / 2 ^ 48, (k.k1 / 2 ^ 32 % 2 ^ 16, (k.k1 / 2 ^ 24 % 2 ^ 8, (k.k1 / 2 ^ 16 % 2 ^ 8, k.k1 % 2 ^ 16))))))

abbrev pub key_fields : KeyParts → List ℕ
key_fields = spelled_after address_text (spelled_after address_text (spelled_after (number_then space) (spelled_after (number_then space)
    (spelled_after (number_then space) (spelled_after (number_then space) (number_then space))))))

abbrev pub AreKeyParts : KeyParts → Type 0
AreKeyParts = BothIn IsAddress (BothIn IsAddress (BothIn IsPort (BothIn IsPort (BothIn IsByte (BothIn IsByte IsPort)))))

pub key_by_parts : IsSpelledBy key_text IsKeyInRange key_parts key_fields AreKeyParts
unfolding key_text address_text words_then spelled_after
key_by_parts = record {
  spelled = λ k. simp append_assoc;
  in_range = λ k h.
      let k0 = h.k0 in let k1 = h.k1 in
      record {
        first = omega arith;
        second = record {
          first = omega arith;
          second = record {
            first = omega arith;
            second = record {
              first = omega arith;
              second = record { first = omega arith; second = record { first = omega arith; second = omega arith } };
            };
          };
        };
      };
}

-- a key from its seven numbers
pub key_from_parts : (k : Key) (source destination source_port destination_port protocol service input : ℕ)
    → k.k0 ≡ source * 2 ^ 32 + destination → k.k1 ≡ source_port * 2 ^ 48 + destination_port * 2 ^ 32 + protocol * 2 ^ 24 + service * 2 ^ 16 + input
    → IsAddress source → IsAddress destination → IsPort source_port → IsPort destination_port → IsByte protocol → IsByte service → IsPort input
    → key_parts k ≡ (source, (destination, (source_port, (destination_port, (protocol, (service, input))))))
key_from_parts k source destination source_port destination_port protocol service input k0_is k1_is a_in b_in c_in d_in e_in f_in g_in =
    let a : k.k0 / 2 ^ 32 ≡ source = omega arith in
    let b : k.k0 % 2 ^ 32 ≡ destination = omega arith in
    let c : k.k1 / 2 ^ 48 ≡ source_port = omega arith in
    let d : k.k1 / 2 ^ 32 % 2 ^ 16 ≡ destination_port = omega arith in
    let e : k.k1 / 2 ^ 24 % 2 ^ 8 ≡ protocol = omega arith in
    let f : k.k1 / 2 ^ 16 % 2 ^ 8 ≡ service = omega arith in
    let g : k.k1 % 2 ^ 16 ≡ input = omega arith in
    λ i. (a i, (b i, (c i, (d i, (e i, (f i, g i))))))

same_key : (x y : Key) → key_parts x ≡ key_parts y → x ≡ y
same_key x y is =
    let a : x.k0 / 2 ^ 32 ≡ y.k0 / 2 ^ 32 = ap (λ (p : KeyParts). p.0) is in
    let b : x.k0 % 2 ^ 32 ≡ y.k0 % 2 ^ 32 = ap (λ (p : KeyParts). p.1.0) is in
    let c : x.k1 / 2 ^ 48 ≡ y.k1 / 2 ^ 48 = ap (λ (p : KeyParts). p.1.1.0) is in
    let d : x.k1 / 2 ^ 32 % 2 ^ 16 ≡ y.k1 / 2 ^ 32 % 2 ^ 16 = ap (λ (p : KeyParts). p.1.1.1.0) is in
    let e : x.k1 / 2 ^ 24 % 2 ^ 8 ≡ y.k1 / 2 ^ 24 % 2 ^ 8 = ap (λ (p : KeyParts). p.1.1.1.1.0) is in
    let f : x.k1 / 2 ^ 16 % 2 ^ 8 ≡ y.k1 / 2 ^ 16 % 2 ^ 8 = ap (λ (p : KeyParts). p.1.1.1.1.1.0) is in
    let g : x.k1 % 2 ^ 16 ≡ y.k1 % 2 ^ 16 = ap (λ (p : KeyParts). p.1.1.1.1.1.1) is in
    let k0 : x.k0 ≡ y.k0 = omega arith in
    let k1 : x.k1 ≡ y.k1 = omega arith in
    λ i. record { k0 = k0 i; k1 = k1 i }

pub keys_free : IsPrefixFree key_text IsKeyInRange
keys_free =
    let bytes = bytes_free space (omega arith) in
    parts_prefix_free key_by_parts same_key (pairs_prefix_free addresses_free (pairs_prefix_free addresses_free (pairs_prefix_free ports_free (pairs_prefix_free ports_free
    (pairs_prefix_free bytes (pairs_prefix_free bytes ports_free))))))

-- the five numbers of a value
abbrev pub ValueParts : Type 0
ValueParts = ℕ × (ℕ × (ℕ × (ℕ × ℕ)))

abbrev pub value_parts : Value → ValueParts
value_parts v = (v.packets, (v.octets, (v.first, (v.last, v.flags))))

abbrev pub value_fields : ValueParts → List ℕ
value_fields = spelled_after (number_then space) (spelled_after (number_then space)
    (spelled_after (number_then space) (spelled_after (number_then space) (number_then line_feed))))

abbrev pub AreValueParts : ValueParts → Type 0
AreValueParts = BothIn IsCount (BothIn IsCount (BothIn IsCount (BothIn IsCount IsCount)))

pub value_by_parts : IsSpelledBy value_text IsValueInRange value_parts value_fields AreValueParts
unfolding value_text words_then spelled_after
value_by_parts = record {
  spelled = λ v. simp append_assoc;
  in_range = λ v h.
      let packets = h.packets in let octets = h.octets in let first = h.first in let last = h.last in let flags = h.flags in
      record {
        first = omega arith;
        second = record {
          first = omega arith;
          second = record { first = omega arith; second = record { first = omega arith; second = omega arith } };
        };
      };
}

same_value : (x y : Value) → value_parts x ≡ value_parts y → x ≡ y
same_value x y is = λ i. record { packets = (is i).0; octets = (is i).1.0; first = (is i).1.1.0; last = (is i).1.1.1.0; flags = (is i).1.1.1.1 }

pub values_free : IsPrefixFree value_text IsValueInRange
values_free = parts_prefix_free value_by_parts same_value (pairs_prefix_free counts_free (pairs_prefix_free counts_free
    (pairs_prefix_free counts_free (pairs_prefix_free counts_free last_counts_free))))

abbrev pub flow_fields : Key × Value → List ℕ
flow_fields = spelled_after key_text value_text

pub flow_by_parts : IsSpelledBy flow_line IsFlowInRange (λ f. f) flow_fields (BothIn IsKeyInRange IsValueInRange)
unfolding flow_line spelled_after
flow_by_parts = record {
  spelled = λ f. refl;
  in_range = λ f h. record { first = h.0; second = h.1 };
}

pub flows_free : IsPrefixFree flow_line IsFlowInRange
flows_free = parts_prefix_free flow_by_parts (λ x y is. is) (pairs_prefix_free keys_free values_free)
