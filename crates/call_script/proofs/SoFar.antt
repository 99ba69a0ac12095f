-- A script read line by line.
use Rattle.std.specs.Prelude.{is_some}
use Rattle.std.specs.List.{AllZip}
use Rattle.std.proofs.Common.{◌≡◌, ◌∙◌, ℕ, ◌+◌, ◌<◌, ◌≤◌, List, [], ◌∷◌, ◌++◌, length, take, drop, refl, sym, ap, subst, arith, length-append, false, replicate}
use Rattle.std.proofs.lemmas.List.{take_more}
use Rattle.seat_history.proofs.Blank.{get_or_replicate_same}
use Rattle.seat_history.specs.History.{object_from}
use Rattle.seat_history.specs.Object.{Object, MayCall, blank_object, object_after}
use Rattle.seat_history.specs.declared.entry.Entry.{Entry}
use Rattle.call_script.specs.Holding.{TellsHolders}
use Rattle.call_script.specs.Line.{HasCause, IsInRange, MayHaveCallers, NamesCallers, SpellsEntry}
use Rattle.call_script.specs.Script.{MayRun, IsScript, IsBadCall, IsOneMore}
use Rattle.call_script.specs.declared.bad_script.LineCause.{LineCause}
use Rattle.call_script.proofs.Tuples.{drop_first, drop_nothing}
use Rattle.call_script.proofs.Zips.{zip_push}

-- the first lines spell these calls
pub record IsReadSoFar (callers : ℕ) (all : List (List ℕ)) (entries : List Entry) : Type 0 where
  pub spelled : AllZip SpellsEntry (take (length entries) all) entries
  pub may : MayRun callers blank_object entries
  pub few : length entries ≤ 65536

pub MayRun-push : (callers : ℕ) (object : Object) (entries : List Entry) (entry : Entry) → MayRun callers object entries → IsInRange callers entry
    → MayCall ((object_from object entries).held entry.caller) entry.call → MayRun callers object (entries ++ entry ∷ [])
MayRun-push callers object [] entry may range call = (range, call, tt)
MayRun-push callers object (first ∷ entries) entry may range call = (may.0, may.1, MayRun-push callers (object_after object first) entries entry may.2 range call)

-- before the first line
pub nothing_read : (callers : ℕ) (all : List (List ℕ)) (entries : List Entry) → entries ≡ [] → IsReadSoFar callers all entries
nothing_read callers all entries none = subst (λ es. IsReadSoFar callers all es) (sym none) (record { spelled = tt; may = tt; few = omega arith })

pub nothing_left : (all : List (List ℕ)) (entries : List Entry) → entries ≡ [] → drop (length entries) all ≡ all
nothing_left all entries none = ap (λ (es : List Entry). drop (length es) all) none

pub no_holders : (n : ℕ) (entries : List Entry) → entries ≡ [] → TellsHolders (replicate n false) (object_from blank_object entries)
no_holders n entries none caller = get_or_replicate_same n caller false ∙ ap (λ (es : List Entry). is_some ((object_from blank_object es).held caller)) (sym none)

module _ (callers : ℕ) (all : List (List ℕ)) (entries : List Entry) (read : IsReadSoFar callers all entries) where
  pub read_more : (line : List ℕ) (more : List (List ℕ)) (entry : Entry) → drop (length entries) all ≡ line ∷ more → length entries < 65536
      → SpellsEntry line entry → IsInRange callers entry → MayCall ((object_from blank_object entries).held entry.caller) entry.call → IsReadSoFar callers all (entries ++ entry ∷ [])
  read_more line more entry left room spells range call =
      let next = drop_first all (length entries) line [] more left in
      let longer : length (entries ++ entry ∷ []) ≡ length entries + 1 = length-append entries (entry ∷ []) in
      let front : take (length (entries ++ entry ∷ [])) all ≡ take (length entries) all ++ line ∷ [] =
      ap (λ n. take n all) longer ∙ take_more all (length entries) [] next.0 ∙ ap (λ l. take (length entries) all ++ l ∷ []) next.1 in
      record {
        spelled = subst (λ lines. AllZip SpellsEntry lines (entries ++ entry ∷ [])) (sym front) (zip_push SpellsEntry (take (length entries) all) entries line entry read.spelled spells);
        may = MayRun-push callers blank_object entries entry read.may range call;
        few = omega (arith, longer);
      }

  pub left_more : (line : List ℕ) (more : List (List ℕ)) (entry : Entry) → drop (length entries) all ≡ line ∷ more → drop (length (entries ++ entry ∷ [])) all ≡ more
  left_more line more entry left = ap (λ n. drop n all) (length-append entries (entry ∷ [])) ∙ (drop_first all (length entries) line [] more left).2

  module _ (first : List ℕ) (named : NamesCallers first callers) (some : MayHaveCallers callers) where
    front_script : IsScript first (take (length entries) all) callers entries
    front_script = record { named = named; some = some; spelled = read.spelled; may = read.may; few = read.few }

    pub whole_script : drop (length entries) all ≡ [] → IsScript first all callers entries
    whole_script left = subst (λ lines. IsScript first lines callers entries) (drop_nothing all (length entries) left) front_script

    pub bad_here : (line : List ℕ) (more : List (List ℕ)) (cause : LineCause) → drop (length entries) all ≡ line ∷ more → length entries < 65536
        → HasCause callers (object_from blank_object entries) line cause → IsBadCall first all (length entries + 2) cause
    bad_here line more cause left room fits =
        let next = drop_first all (length entries) line [] more left in
        record {
          callers = callers;
          entries = entries;
          before = front_script;
          number = refl;
          there = next.0;
          few = room;
          fits = subst (λ l. HasCause callers (object_from blank_object entries) l cause) (sym next.1) fits;
        }

    pub one_more : length entries < length all → length entries ≡ 65536 → IsOneMore first all (length entries + 2)
    one_more there full = record { callers = callers; entries = entries; before = front_script; number = refl; there = there; full = full }
