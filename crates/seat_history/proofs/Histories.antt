-- Calls one after the other.
use Rattle.std.proofs.Common.{◌≡◌, ℕ, ◌≤◌, List, [], ◌∷◌, ◌++◌, refl, ap, length, suc}
use Rattle.std.proofs.lemmas.List.{take-append-le}
use Rattle.seat_history.specs.Contents.{Contents, blank}
use Rattle.seat_history.specs.History.{contents_from, state_at, object_from, replies_from}
use Rattle.seat_history.specs.Object.{Object, object_after, reply_in}
use Rattle.seat_history.specs.Step.{contents_after}
use Rattle.seat_history.specs.declared.entry.Entry.{Entry}

pub contents_from-append : (contents : Contents) (front back : List Entry) → contents_from contents (front ++ back) ≡ contents_from (contents_from contents front) back
contents_from-append contents [] back = refl
contents_from-append contents (entry ∷ front) back = contents_from-append (contents_after contents entry.call) front back

pub object_from-append : (object : Object) (front back : List Entry) → object_from object (front ++ back) ≡ object_from (object_from object front) back
object_from-append object [] back = refl
object_from-append object (entry ∷ front) back = object_from-append (object_after object entry) front back

pub replies_from-append : (object : Object) (front back : List Entry) → replies_from object (front ++ back) ≡ replies_from object front ++ replies_from (object_from object front) back
replies_from-append object [] back = refl
replies_from-append object (entry ∷ front) back = ap (λ replies. reply_in object entry ∷ replies) (replies_from-append (object_after object entry) front back)

pub length-replies_from : (object : Object) (entries : List Entry) → length (replies_from object entries) ≡ length entries
length-replies_from object [] = refl
length-replies_from object (entry ∷ entries) = ap suc (length-replies_from (object_after object entry) entries)

-- held records change no contents
pub contents-object_from : (object : Object) (entries : List Entry) → (object_from object entries).contents ≡ contents_from object.contents entries
contents-object_from object [] = refl
contents-object_from object (entry ∷ entries) = contents-object_from (object_after object entry) entries

-- what comes later doesn't touch an earlier place
pub state_at-append : (history more : List Entry) (place : ℕ) → place ≤ length history → state_at (history ++ more) place ≡ state_at history place
state_at-append history more place within = ap (contents_from blank) (take-append-le place history more within)
