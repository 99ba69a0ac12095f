-- The calls of a thread: what each is, its key, and the value that it brings.
use Rattle.std.specs.Prelude.{◌≡◌, ◌+◌, ◌-◌, ◌*◌, ◌/◌, ◌%◌, ◌^◌, ◌==◌, nat_lt, ℕ, List, Option, Some, None, slice_index, if◌then◌else◌}
use Rattle.seat_history.specs.declared.key.KeyWords.{KeyWords}
use Rattle.speed_runs.specs.Streams.{drawn}
use Rattle.table_speed.specs.Asking.{evens}
use Rattle.table_speed.specs.declared.asked.Asked.{Asked}
use Rattle.table_speed.specs.declared.asked.Kind.{Kind}
use Rattle.table_speed.specs.declared.asked.Kind.TheVariants.{Find as FindKind, Insert as InsertKind, Mix, Sum, Few}
use Rattle.table_speed.specs.declared.turns.Step.{Step}
use Rattle.table_speed.specs.declared.turns.Step.TheVariants.{Find as FindStep, Insert as InsertStep, Replace as ReplaceStep}

-- what comes after a find that found this: an insert of its key where it is absent, else a replace of the value
abbrev pub step_after : Option (List ℕ) → Step
step_after None = InsertStep
step_after (Some val) = ReplaceStep val

-- what the timed call i is, where the last find found this: in a mix they are finds and inserts in turn, in a sum finds and what comes after each;
-- with few changes each 20th comes after a find, and the others are finds
abbrev pub timed_step : Kind → ℕ → Option (List ℕ) → Step
timed_step FindKind i found = FindStep
timed_step InsertKind i found = InsertStep
timed_step Mix i found = if i % 2 == 0 then FindStep else InsertStep
timed_step Sum i found = if i % 2 == 0 then FindStep else step_after found
timed_step Few i found = if i % 20 == 19 then step_after found else FindStep

-- what call i is, where the last find found this: the first ones fill the table
abbrev pub step_of : Asked → ℕ → Option (List ℕ) → Step
step_of asked i found = if nat_lt i asked.filling then InsertStep else timed_step asked.kind (i - asked.filling) found

-- how often a thread drew a key before its timed call i: a sum draws one for two calls, and few changes 19 for 20
abbrev pub draw_of : Kind → ℕ → ℕ
draw_of Sum i = i / 2
draw_of Few i = i - (i + 1) / 20
draw_of _ i = i

-- the key number of a thread's call i: the threads fill the table with the even ones in turn, and draw the others
abbrev pub index_of : Asked → ℕ → ℕ → ℕ
index_of asked thread i = if nat_lt i asked.filling then 2 * ((thread + asked.plan.seats * i) % evens asked.keys)
    else drawn asked.numbers.items asked.calls thread (draw_of asked.kind (i - asked.filling)) % asked.keys

-- the key of a key number: the number mixed, and the number
abbrev pub key_of : ℕ → KeyWords
key_of index = record { k0 = (index * 6364136223846793005 + 1442695040888963407) % 2 ^ 64; k1 = index }

-- the words are an old value's sum with the call's: the first word is the old first one and that of a new value, and the second names the caller
pub record IsSum (old : List ℕ) (thread i : ℕ) (new : List ℕ) : Type 0 where
  pub sum : slice_index new 0 ≡ (slice_index old 0 + (i + 1)) % 2 ^ 64
  pub caller : slice_index new 1 ≡ thread
