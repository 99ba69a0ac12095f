-- An object of many callers, and calls on it in turn.
use Rattle.std.specs.Prelude.{◌≡◌, ℕ, ◌<◌, List, Option, None, IsSome, ⊤}
use Rattle.seat_history.specs.Contents.{Contents, blank, set_at}
use Rattle.seat_history.specs.Step.{step}
use Rattle.seat_history.specs.declared.call.Call.{Call}
use Rattle.seat_history.specs.declared.call.Call.TheVariants.{Load, Store, Swap, Hold, Look, Release}
use Rattle.seat_history.specs.declared.entry.Entry.{Entry}
use Rattle.seat_history.specs.declared.reply.Reply.{Reply}

-- the contents, and the record that each caller holds, if any
pub record Object : Type 0 where
  pub contents : Contents
  pub held : ℕ → Option (List ℕ)

-- blank contents, and nothing is held
abbrev pub blank_object : Object
blank_object = record { contents = blank; held = λ _. None }

-- the reply to a caller's call
abbrev pub reply_in : Object → Entry → Reply
reply_in object entry = (step object.contents (object.held entry.caller) entry.call).reply

-- the object after a caller's call: no other caller holds anything else
abbrev pub object_after : Object → Entry → Object
object_after object entry = let outcome = step object.contents (object.held entry.caller) entry.call in record {
  contents = outcome.contents;
  held = set_at object.held entry.caller outcome.held;
}

-- a caller that holds this record may make the call
abbrev pub MayCall : Option (List ℕ) → Call → Type 0
MayCall held (Hold reg) = held ≡ None
MayCall held Look = IsSome held
MayCall held Release = IsSome held
MayCall held _ = ⊤

-- the register that the call names, if any, is below this number
abbrev pub NamesBelow : ℕ → Call → Type 0
NamesBelow count (Load reg) = reg < count
NamesBelow count (Store reg new) = reg < count
NamesBelow count (Swap reg old new) = reg < count
NamesBelow count (Hold reg) = reg < count
NamesBelow count _ = ⊤
