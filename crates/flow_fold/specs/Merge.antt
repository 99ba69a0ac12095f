-- Two values as one.
use Rattle.std.specs.Prelude.{◌+◌, ◌%◌, ◌^◌, min, max, bit_or, Option, Some, None}
use Rattle.flow_fold.specs.declared.value.Value.{Value}

-- the sums modulo 2^64, the lesser first, the greater last, and the flags of both
abbrev pub merge_of : Value → Value → Value
merge_of a b = record {
  packets = (a.packets + b.packets) % 2 ^ 64;
  octets = (a.octets + b.octets) % 2 ^ 64;
  first = min a.first b.first;
  last = max a.last b.last;
  flags = bit_or a.flags b.flags;
}

-- a value merged into what was there, or alone where nothing was
abbrev pub merged_into : Option Value → Value → Value
merged_into None value = value
merged_into (Some old) value = merge_of old value
