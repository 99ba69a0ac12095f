-- Each script has a run, and a plain one.
use Rattle.std.specs.List.{AllByRecursion, AllZip, range_with_len}
use Rattle.std.proofs.Common.{All, ◌≡◌, ◌∙◌, ℕ, ◌-◌, ◌^◌, ◌<◌, List, [], ◌∷◌, ◌++◌, length, replicate, take_all, refl, sym, ap, subst, arith}
use Rattle.std.proofs.Math.Nat.{mul_comm}
use Rattle.std.proofs.lemmas.List.Elements.{All-append, All-from_recursion, All-head, All-replicate, All-same, All-tail}
use Rattle.seat_history.proofs.Histories.{contents-object_from}
use Rattle.seat_history.proofs.SetPairs.{AddsInRange, some_pairs}
use Rattle.seat_history.specs.Contents.{Contents, blank}
use Rattle.seat_history.specs.History.{contents_from, object_from, replies_from}
use Rattle.seat_history.specs.Object.{NamesBelow, Object, blank_object, object_after}
use Rattle.seat_history.specs.Pairs.{ArePairsOf, IsPairInRange}
use Rattle.seat_history.specs.declared.call.Call.{Call}
use Rattle.seat_history.specs.declared.call.Call.TheVariants.{Load, Store, Swap, Hold, Look, Release, Find, Insert, Replace, Remove}
use Rattle.seat_history.specs.declared.entry.Entry.{Entry}
use Rattle.seat_history.specs.declared.key.KeyWords.{KeyWords}
use Rattle.seat_history.specs.declared.words.TheConstants.{VALUE_WIDTH}
use Rattle.step_rules.proofs.World.Sizes.{nodes_parts}
use Rattle.step_rules.specs.Closing.{live_nodes}
use Rattle.step_rules.specs.History.{IsThere}
use Rattle.step_rules.specs.Layout.{nodes}
use Rattle.step_rules.specs.declared.plan.Plan.{Plan}
use Rattle.call_script.specs.Cut.{parts_at, words_of}
use Rattle.call_script.specs.Line.{SpellsEntry, SpellsWords}
use Rattle.call_script.specs.Number.{IsNumber, IsTuple}
use Rattle.call_script.specs.PlainRun.{IsPlainRun}
use Rattle.call_script.specs.Run.{Follows, IsRun, Made, RunsIn, begun, course_from, made_in, made_lines, plan_of, registers_in}
use Rattle.call_script.specs.Script.{Good, MayRun, ReadAs}
use Rattle.call_script.specs.Spelling.{IsField, IsKey, UpTo, fields_of, key_field}
use Rattle.call_script.specs.declared.driven.Driven.{Driven}
use Rattle.call_script.specs.declared.driven.PlainRun.{PlainRun}
use Rattle.call_script.proofs.LineOrders.{made_long}
use Rattle.call_script.proofs.Orders.{all_items, run_in_script_order, script_order}
use Rattle.call_script.proofs.SomeCourse.{Fits, balanced_first, live_within, some_course}

numbers_small : (parts : List (List ℕ)) (numbers : List ℕ) → AllZip IsNumber parts numbers → AllByRecursion (λ n. n < 2 ^ 64) numbers
numbers_small [] [] h = tt
numbers_small [] (n ∷ numbers) h = absurd h
numbers_small (part ∷ parts) [] h = absurd h
numbers_small (part ∷ parts) (n ∷ numbers) h = (h.0.small, numbers_small parts numbers h.1)

tuple_small : (most : ℕ) (text words : List ℕ) → IsTuple most text words → All (λ n. n < 2 ^ 64) words
tuple_small most text words h =
    All-same (λ n. n < 2 ^ 64) words (h.numbers ++ replicate (most - length h.numbers) 0) h.filled
    (All-append (λ n. n < 2 ^ 64) h.numbers (replicate (most - length h.numbers) 0)
    (All-from_recursion (λ n. n < 2 ^ 64) h.numbers (numbers_small (parts_at 44 text) h.numbers h.spelled))
    (All-replicate (λ n. n < 2 ^ 64) (most - length h.numbers) 0 (omega arith)))

pair_small : (key_text val_text : List ℕ) (key : KeyWords) (val : List ℕ) → IsKey key_text key → IsTuple VALUE_WIDTH val_text val → IsPairInRange (key, val)
pair_small key_text val_text key val k v =
    let words = tuple_small 2 key_text (key.k0 ∷ key.k1 ∷ []) k in
    record {
      k0 = All-head (λ n. n < 2 ^ 64) key.k0 (key.k1 ∷ []) words;
      k1 = All-head (λ n. n < 2 ^ 64) key.k1 [] (All-tail (λ n. n < 2 ^ 64) key.k0 (key.k1 ∷ []) words);
      value = tuple_small VALUE_WIDTH val_text val v;
    }

insert_small : (words : List (List ℕ)) (key : KeyWords) (val : List ℕ) → AllZip IsField words (key_field key ∷ UpTo VALUE_WIDTH val ∷ []) → IsPairInRange (key, val)
insert_small [] key val h = absurd h
insert_small (k ∷ []) key val h = absurd h.1
insert_small (k ∷ (v ∷ words)) key val h = pair_small k v key val h.0 h.1.0

replace_small : (words : List (List ℕ)) (key : KeyWords) (old new : List ℕ) → AllZip IsField words (key_field key ∷ UpTo VALUE_WIDTH old ∷ UpTo VALUE_WIDTH new ∷ []) → IsPairInRange (key, new)
replace_small [] key old new h = absurd h
replace_small (k ∷ []) key old new h = absurd h.1
replace_small (k ∷ (o ∷ [])) key old new h = absurd h.1.1
replace_small (k ∷ (o ∷ (n ∷ words))) key old new h = pair_small k n key new h.0 h.1.1.0

call_small : (words : List (List ℕ)) (call : Call) → AllZip IsField words (fields_of call) → AddsInRange call
call_small words (Insert key val) h = insert_small words key val h
call_small words (Replace key old new) h = replace_small words key old new h
call_small words (Load reg) h = tt
call_small words (Store reg new) h = tt
call_small words (Swap reg old new) h = tt
call_small words (Hold reg) h = tt
call_small words Look h = tt
call_small words Release h = tt
call_small words (Find key) h = tt
call_small words (Remove key) h = tt

words_small : (words : List (List ℕ)) (entry : Entry) → SpellsWords words entry → AddsInRange entry.call
words_small [] entry h = absurd h
words_small (caller ∷ []) entry h = absurd h.1
words_small (caller ∷ (name ∷ words)) entry h = call_small words entry.call h.1.1

lines_small : (lines : List (List ℕ)) (entries : List Entry) → AllZip SpellsEntry lines entries → AllByRecursion (λ (entry : Entry). AddsInRange entry.call) entries
lines_small [] [] h = tt
lines_small [] (entry ∷ entries) h = absurd h
lines_small (line ∷ lines) [] h = absurd h
lines_small (line ∷ lines) (entry ∷ entries) h = (words_small (words_of line) entry h.0, lines_small lines entries h.1)

-- lines that spell calls have a plain run
pub some_plain_run : (lines : List (List ℕ)) (entries : List Entry) → AllZip SpellsEntry lines entries → (run : PlainRun) × IsPlainRun entries run
some_plain_run lines entries spelled =
    let pairs = some_pairs entries (lines_small lines entries spelled) in
    let run : PlainRun = record {
      replies = replies_from blank_object entries;
      registers = registers_in (object_from blank_object entries) 16;
      pairs = pairs.0;
    } in
    (run, run_in_script_order entries run refl refl pairs.1 pairs.2)

there_is : (p : Plan) (call : Call) → NamesBelow p.registers call → 0 < p.buckets → IsThere p call
there_is p (Load reg) below some = below
there_is p (Store reg new) below some = below
there_is p (Swap reg old new) below some = below
there_is p (Hold reg) below some = below
there_is p Look below some = tt
there_is p Release below some = tt
there_is p (Find key) below some = some
there_is p (Insert key val) below some = some
there_is p (Replace key old new) below some = some
there_is p (Remove key) below some = some

-- lines that may be made fit an object with buckets
all_fit : (p : Plan) (object : Object) (entries : List Entry) → p.registers ≡ 16 → 0 < p.buckets → MayRun p.seats object entries
    → AllByRecursion (λ (entry : Entry). AddsInRange entry.call) entries → AllByRecursion (Fits p) entries
all_fit p object [] sixteen some may small = tt
all_fit p object (entry ∷ entries) sixteen some may small = (
  record { caller = may.0.0; there = there_is p entry.call (subst (λ n. NamesBelow n entry.call) (sym sixteen) may.0.1) some; small = small.0 },
  all_fit p (object_after object entry) entries sixteen some may.2 small.1,
)

-- each script has a run, on an object with buckets
pub script_run : (lines : List (List ℕ)) (callers : ℕ) (entries : List Entry) (buckets share : ℕ) → 0 < buckets → ReadAs lines (Good callers entries)
    → (driven : Driven) × IsRun (plan_of callers entries buckets share) entries driven
script_run [] callers entries buckets share some reads = absurd reads
script_run (first ∷ rest) callers entries buckets share some reads =
    let p = plan_of callers entries buckets share in
    let found = some_course p entries begun (balanced_first p) (all_fit p blank_object entries refl some reads.may (lines_small rest entries reads.spelled)) in
    let made = made_lines entries found.0 in
    let end = course_from p begun made in
    let balanced = found.3 in
    let pairs = some_pairs end.log balanced.small in
    let contents : (object_from blank_object end.log).contents ≡ end.object.contents
    = contents-object_from blank_object end.log ∙ (ap (contents_from blank) (sym (take_all (length end.log) end.log (omega arith))) ∙ sym balanced.contents) in
    let live = live_nodes p end.log in
    let driven : Driven = record {
      replies = found.0;
      registers = registers_in end.object 16;
      pairs = pairs.0;
      counts = record { free = nodes p - live; live = live; retired = 0 };
    } in
    let whole : made_in entries found.0 (range_with_len 0 (length entries)) ≡ made = all_items made (length entries) (sym (made_long entries found.0 found.1)) in
    let within = live_within p end balanced in
    let runs : RunsIn p (range_with_len 0 (length entries)) entries driven = record {
      each_replied = found.1;
      follows = subst (Follows p begun) (sym whole) found.2;
      registers = ap (λ (ms : List Made). registers_in (course_from p begun ms).object 16) (sym whole);
      pairs = subst (λ (ms : List Made). ArePairsOf (course_from p begun ms).object.contents.values pairs.0) (sym whole)
          (subst (λ (c : Contents). ArePairsOf c.values pairs.0) contents pairs.1);
      in_range = pairs.2;
      retired = refl;
      live = ap (λ (ms : List Made). live_nodes p (course_from p begun ms).log) (sym whole);
      whole = omega (arith, within, nodes_parts p, mul_comm p.seats p.share);
    } in
    (driven, (range_with_len 0 (length entries), script_order entries, runs))
