-- Calls of many callers, one after the other.
use Rattle.std.specs.Prelude.{ℕ, List, [], ◌∷◌, take}
use Rattle.seat_history.specs.Contents.{Contents, blank}
use Rattle.seat_history.specs.Object.{Object, object_after, reply_in}
use Rattle.seat_history.specs.Step.{contents_after}
use Rattle.seat_history.specs.declared.entry.Entry.{Entry}
use Rattle.seat_history.specs.declared.reply.Reply.{Reply}

-- the contents that the entries leave
abbrev pub contents_from : Contents → List Entry → Contents
contents_from contents [] = contents
contents_from contents (entry ∷ entries) = contents_from (contents_after contents entry.call) entries

-- the contents at a place of a history: after as many first entries, from zero registers and the empty map
abbrev pub state_at : List Entry → ℕ → Contents
state_at history place = contents_from blank (take place history)

-- the object that the entries leave
abbrev pub object_from : Object → List Entry → Object
object_from object [] = object
object_from object (entry ∷ entries) = object_from (object_after object entry) entries

-- the reply to each entry
abbrev pub replies_from : Object → List Entry → List Reply
replies_from object [] = []
replies_from object (entry ∷ entries) = reply_in object entry ∷ replies_from (object_after object entry) entries
