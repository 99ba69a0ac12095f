-- What a seat's stands say of the history.
use Rattle.std.specs.Prelude.{◌≡◌, ℕ, ◌+◌, ◌*◌, ◌<◌, ◌≤◌, ◌==◌, ◌&&◌, Bool, true, false, not, List, [], ◌∷◌, Option, None, length, take, filter, map}
use Rattle.std.specs.Prelude.{AllPairs, if◌then◌else◌}
use mathlib.Core.Option.{some}
use lib.ListN.{get_elem?}
use Rattle.seat_history.specs.Change.{is_change}
use Rattle.seat_history.specs.Contents.{Contents}
use Rattle.seat_history.specs.History.{state_at}
use Rattle.seat_history.specs.Object.{MayCall}
use Rattle.seat_history.specs.Step.{held_after, reply_to}
use Rattle.seat_history.specs.declared.call.Call.{Call}
use Rattle.seat_history.specs.declared.entry.Entry.{Entry}
use Rattle.seat_history.specs.declared.reply.Reply.{Reply}
use Rattle.seat_history.specs.declared.reply.Reply.TheVariants.{Full}
use Rattle.step_rules.specs.History.{IsThere, entries_by}
use Rattle.step_rules.specs.Records.{need_in}
use Rattle.step_rules.specs.Stock.{KeepsStock}
use Rattle.step_rules.specs.World.{has}
use Rattle.step_rules.specs.declared.layout.TheConstants.{CLAIMS}
use Rattle.step_rules.specs.declared.plan.Plan.{Plan}
use Rattle.step_rules.specs.declared.view.Stand.{Stand}

abbrev pub is_full : Reply → Bool
is_full (Full need free) = true
is_full _ = false

-- the entry that a stand is where it changes
abbrev pub entry_of : Stand → Entry
entry_of s = record { caller = s.by; call = s.call }

-- the record that a caller holds after these stands, where it held this one before
abbrev pub held_from : List Entry → ℕ → Option (List ℕ) → List Stand → Option (List ℕ)
held_from seen x held [] = held
held_from seen x held (s ∷ r) = held_from seen x (if s.by == x then held_after (state_at seen s.place) held s.call else held) r

-- the record that a caller holds after these stands: that of its last Hold without a later Release
abbrev pub held_by : List Entry → ℕ → List Stand → Option (List ℕ)
held_by seen x stands = held_from seen x None stands

-- Full is right after the history: the call would change the contents, it needs so many nodes, and fewer are free; of the seat's nodes, no
-- more are retired than there are claim words
pub record IsFull (p : Plan) (stock : ℕ) (contents : Contents) (log : List Entry) (call : Call) (need free : ℕ) : Type 0 where
  pub changes : is_change contents call ≡ true
  pub need_is : need ≡ need_in p log call
  pub few : free < need
  pub most : free ≤ stock
  pub least : stock ≤ free + CLAIMS * p.seats

-- the reply to a call on these contents, which the history leaves, by a seat of so many nodes
abbrev pub IsReply : Plan → ℕ → Contents → List Entry → Option (List ℕ) → Call → Reply → Type 0
IsReply p stock contents log held call (Full need free) = IsFull p stock contents log call need free
IsReply p stock contents log held call reply = reply_to contents held call ≡ reply

-- a caller that holds this record may make the call: the cell that it names is there; a hold comes with nothing held, and a look and a release
-- with a record held
pub record IsLegal (p : Plan) (held : Option (List ℕ)) (call : Call) : Type 0 where
  pub there : IsThere p call
  pub may : MayCall held call

-- the stand is right for the history, after the stands before it
pub record IsRight (p : Plan) (seen : List Entry) (before : List Stand) (s : Stand) : Type 0 where
  pub place : s.place ≤ length seen
  pub legal : IsLegal p (held_by seen s.by before) s.call
  pub reply : IsReply p s.stock (state_at seen s.place) (take s.place seen) (held_by seen s.by before) s.call s.reply
  pub changes : s.changes ≡ (is_change (state_at seen s.place) s.call && not (is_full s.reply))
  pub entry : s.changes ≡ true → get_elem? seen s.place ≡ some (entry_of s)

-- the caller's stands that change
abbrev pub made_by : ℕ → List Stand → List Stand
made_by x stands = filter (λ (s : Stand). s.changes && (s.by == x)) stands

-- one caller's places never fall, and after a change at p come places above p
abbrev pub Below : Stand → Stand → Type 0
Below a b = a.by ≡ b.by → (a.place ≤ b.place) × (a.changes ≡ true → a.place < b.place)

-- all stands are right, in their callers' orders, and those that change are just the callers' entries, in order; beside each are its seat's nodes
pub record Lawful (p : Plan) (numbers : List ℕ) (seen : List Entry) (stands : List Stand) : Type 0 where
  pub right : (i : ℕ) (s : Stand) → get_elem? stands i ≡ some s → IsRight p seen (take i stands) s
  pub by : (i : ℕ) (s : Stand) → get_elem? stands i ≡ some s → has numbers s.by ≡ true
  pub rising : AllPairs Below stands
  pub made : (x : ℕ) → has numbers x ≡ true → entries_by x seen ≡ map entry_of (made_by x stands)
  pub kept : (i : ℕ) (s : Stand) → get_elem? stands i ≡ some s → KeepsStock p seen (take i stands) s
  pub among : (i : ℕ) (s : Stand) → get_elem? stands i ≡ some s → (x : ℕ) → has s.numbers x ≡ true → has numbers x ≡ true
