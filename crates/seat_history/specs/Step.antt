-- What each call replies and what it leaves: the table of the object of one thread. An `option_map_or f there d` is f of the
-- value that is there, and d where there is none.
use Rattle.std.specs.Prelude.{ℕ, Bool, false, nat_eq, List, [], Option, Some, None, unwrap_or, if◌then◌else◌}
use Rattle.std.specs.Option.{option_map_or}
use Rattle.std.specs.Cmp.Lexicographic.{pointwise}
use Rattle.seat_history.specs.Contents.{Contents, set_at}
use Rattle.seat_history.specs.Key.{key_number}
use Rattle.seat_history.specs.declared.call.Call.{Call}
use Rattle.seat_history.specs.declared.call.Call.TheVariants.{Load, Store, Swap, Hold, Look, Release, Find, Insert, Replace, Remove}
use Rattle.seat_history.specs.declared.reply.Reply.{Reply}
use Rattle.seat_history.specs.declared.reply.Reply.TheVariants.{Words, Done, Yes, No, Absent, Val, Present, Found, Gone}

-- the same words
abbrev pub is_same : List ℕ → List ℕ → Bool
is_same a b = pointwise nat_eq a b

-- this value is there
abbrev pub is_value : Option (List ℕ) → List ℕ → Bool
is_value there val = option_map_or (λ found. is_same found val) there false

-- the reply to a replace where this is the value there
abbrev pub replace_reply : Option (List ℕ) → List ℕ → Reply
replace_reply None old = Absent
replace_reply (Some val) old = if is_same val old then Yes else Found val

-- the reply
abbrev pub reply_to : Contents → Option (List ℕ) → Call → Reply
reply_to contents held (Load reg) = Words (contents.registers reg)
reply_to contents held (Store reg new) = Done
reply_to contents held (Swap reg old new) = if is_same (contents.registers reg) old then Yes else No
reply_to contents held (Hold reg) = Done
reply_to contents held Look = Words (unwrap_or held [])
reply_to contents held Release = Done
reply_to contents held (Find key) = option_map_or Val (contents.values (key_number key)) Absent
reply_to contents held (Insert key val) = option_map_or Present (contents.values (key_number key)) Done
reply_to contents held (Replace key old new) = replace_reply (contents.values (key_number key)) old
reply_to contents held (Remove key) = option_map_or Gone (contents.values (key_number key)) Absent

-- the registers that the call leaves
abbrev pub registers_after : (ℕ → List ℕ) → Call → ℕ → List ℕ
registers_after registers (Store reg new) = set_at registers reg new
registers_after registers (Swap reg old new) = if is_same (registers reg) old then set_at registers reg new else registers
registers_after registers _ = registers

-- the pairs that the call leaves
abbrev pub values_after : (ℕ → Option (List ℕ)) → Call → ℕ → Option (List ℕ)
values_after values (Insert key val) =
    option_map_or (λ _. values) (values (key_number key)) (set_at values (key_number key) (Some val))
values_after values (Replace key old new) =
    if is_value (values (key_number key)) old then set_at values (key_number key) (Some new) else values
values_after values (Remove key) = set_at values (key_number key) None
values_after values _ = values

-- the contents that the call leaves
abbrev pub contents_after : Contents → Call → Contents
contents_after contents call = record {
  registers = registers_after contents.registers call;
  values = values_after contents.values call;
}

-- the record that the caller holds after the call
abbrev pub held_after : Contents → Option (List ℕ) → Call → Option (List ℕ)
held_after contents held (Hold reg) = Some (contents.registers reg)
held_after contents held Release = None
held_after contents held _ = held

-- what comes of a call
pub record Outcome : Type 0 where
  pub contents : Contents
  pub held : Option (List ℕ)
  pub reply : Reply

-- a call on these contents by a caller that holds this record
abbrev pub step : Contents → Option (List ℕ) → Call → Outcome
step contents held call = record {
  contents = contents_after contents call;
  held = held_after contents held call;
  reply = reply_to contents held call;
}
