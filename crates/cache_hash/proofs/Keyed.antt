-- What a change of a key's pair is as a call, change by change.
use Rattle.std.proofs.Common.{◌≡◌, ◌≢◌, ◌∙◌, ℕ, ◌<◌, Bool, true, false, cond, List, ◌++◌, Option, Some, None, refl, ap, arith}
use Rattle.big_atomic.proofs.Paid.{exchanges-append, lost-append}
use Rattle.big_atomic.specs.Turns.{exchanges}
use Rattle.cache_hash.specs.Asking.{call_for, plain_reply, would_change}
use Rattle.cache_hash.specs.Changing.{KeepsFree, Tries}
use Rattle.cache_hash.specs.declared.asked.Change.{Change}
use Rattle.cache_hash.specs.declared.asked.Change.TheVariants.{Insert, Replace, Remove}
use Rattle.seat_history.specs.Change.{is_change}
use Rattle.seat_history.specs.Contents.{Contents}
use Rattle.seat_history.specs.Key.{key_number}
use Rattle.seat_history.specs.Object.{MayCall}
use Rattle.seat_history.specs.Step.{held_after, is_same, reply_to}
use Rattle.seat_history.specs.declared.call.Call.{Call}
use Rattle.seat_history.specs.declared.entry.Entry.{Entry}
use Rattle.seat_history.specs.declared.key.KeyWords.{KeyWords}
use Rattle.seat_history.specs.declared.reply.Reply.TheVariants.{Found, Full, Yes}
use Rattle.step_rules.specs.Bags.{times}
use Rattle.step_rules.specs.History.{IsThere, cell_of, key_cell}
use Rattle.step_rules.specs.Lawful.{IsLegal, IsReply}
use Rattle.step_rules.specs.Records.{is_change_in, value_in}
use Rattle.step_rules.specs.declared.plan.Plan.{Plan}
use Rattle.step_rules.specs.declared.view.Counted.{Counted}

pub on_key : (key : KeyWords) (change : Change) (p : Plan) → cell_of p (call_for key change) ≡ key_cell p (key_number key)
on_key key (Insert val) p = refl
on_key key (Replace old new) p = refl
on_key key Remove p = refl

pub there_for : (key : KeyWords) (change : Change) (p : Plan) → 0 < p.buckets → IsThere p (call_for key change)
there_for key (Insert val) p some = some
there_for key (Replace old new) p some = some
there_for key Remove p some = some

pub legal_for : (key : KeyWords) (change : Change) (p : Plan) (held : Option (List ℕ)) → 0 < p.buckets → IsLegal p held (call_for key change)
legal_for key change p held some = record { there = there_for key change p some; may = may_for change }
  where
    may_for : (change : Change) → MayCall held (call_for key change)
    may_for (Insert val) = tt
    may_for (Replace old new) = tt
    may_for Remove = tt

-- the key's value says what is replied and whether the object changes
pub changes_by : (key : KeyWords) (change : Change) (c : Contents) → is_change c (call_for key change) ≡ would_change change (c.values (key_number key))
changes_by key (Insert val) c = refl
changes_by key (Replace old new) c = refl
changes_by key Remove c = refl

pub changes_in : (key : KeyWords) (change : Change) (rs : List (List ℕ)) → is_change_in rs (call_for key change) ≡ would_change change (value_in rs (key_number key))
changes_in key (Insert val) rs = refl
changes_in key (Replace old new) rs = refl
changes_in key Remove rs = refl

pub replies_by : (key : KeyWords) (change : Change) (c : Contents) (held : Option (List ℕ)) → reply_to c held (call_for key change) ≡ plain_reply change (c.values (key_number key))
replies_by key (Insert val) c held = refl
replies_by key (Replace old new) c held = refl
replies_by key Remove c held = refl

pub holds_by : (key : KeyWords) (change : Change) (c : Contents) (held : Option (List ℕ)) → held_after c held (call_for key change) ≡ held
holds_by key (Insert val) c held = refl
holds_by key (Replace old new) c held = refl
holds_by key Remove c held = refl

-- free nodes
pub keeps_same : (inserts : Type 0) {old new : List ℕ} → new ≡ old → KeepsFree inserts old new
keeps_same inserts same = record { nodes = λ n. ap (times n) same; order = λ _. same }

pub keeps_then : {inserts : Type 0} {a b c : List ℕ} → KeepsFree inserts a b → KeepsFree inserts b c → KeepsFree inserts a c
keeps_then first second = record { nodes = λ n. second.nodes n ∙ first.nodes n; order = λ all. second.order all ∙ first.order all }

-- tries
pub exchange_tries : (inserts : Type 0) (steps : List Counted) → 0 < exchanges steps → Tries inserts steps
exchange_tries inserts steps some = record { tried = omega arith; exchanged = λ _. some }

pub tries_then : {inserts : Type 0} (a b : List Counted) → Tries inserts a → Tries inserts (a ++ b)
tries_then a b t = record {
  tried = let some = t.tried in omega (arith, exchanges-append a b, lost-append a b);
  exchanged = λ all. let some = t.exchanged all in omega (arith, exchanges-append a b);
}

-- a plain reply isn't Full
pub never_full : (change : Change) (there : Option (List ℕ)) (need free : ℕ) → plain_reply change there ≢ Full need free
never_full (Insert val) None need free e = absurd cc
never_full (Insert val) (Some there) need free e = absurd cc
never_full (Replace old new) None need free e = absurd cc
never_full (Replace old new) (Some there) need free e = by_test (is_same there old) e
  where
    by_test : (b : Bool) → cond b Yes (Found there) ≢ Full need free
    by_test true e = absurd cc
    by_test false e = absurd cc
never_full Remove None need free e = absurd cc
never_full Remove (Some there) need free e = absurd cc

-- so it is the reply of a stand
pub plain_is_reply : (change : Change) (there : Option (List ℕ)) (p : Plan) (stock : ℕ) (c : Contents) (log : List Entry) (held : Option (List ℕ)) (call : Call)
    → reply_to c held call ≡ plain_reply change there → IsReply p stock c log held call (plain_reply change there)
plain_is_reply (Insert val) None p stock c log held call e = e
plain_is_reply (Insert val) (Some there) p stock c log held call e = e
plain_is_reply (Replace old new) None p stock c log held call e = e
plain_is_reply (Replace old new) (Some there) p stock c log held call e = by_test (is_same there old) e
  where
    by_test : (b : Bool) → reply_to c held call ≡ cond b Yes (Found there) → IsReply p stock c log held call (cond b Yes (Found there))
    by_test true e = e
    by_test false e = e
plain_is_reply Remove None p stock c log held call e = e
plain_is_reply Remove (Some there) p stock c log held call e = e
