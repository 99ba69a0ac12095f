-- Fast reads, as steps go on.
use Rattle.std.proofs.Common.{◌≡◌, ℕ, ◌≤◌, ◌%◌, ◌&&◌, true, false, List, [], ◌++◌, length, take, sym, ap, ◌∙◌, subst, arith, eqb, ⊎_elim}
use Rattle.std.proofs.Common.{length-append}
use Rattle.std.proofs.lemmas.Bool.{and_parts, cases_Bool, cond-false, cond-true, eqb-true}
use Rattle.std.proofs.lemmas.List.{take-append-le}
use Rattle.seat_history.specs.declared.entry.Entry.{Entry}
use Rattle.step_rules.specs.Readers.{IsFirst, SeatReader}
use Rattle.step_rules.specs.Records.{records_at}
use Rattle.step_rules.specs.Versions.{IsEven}
use Rattle.step_rules.specs.Views.{is_even, sees_unmarked}
use Rattle.step_rules.specs.declared.layout.TheConstants.{NODE_WIDTH}
use Rattle.step_rules.specs.declared.plan.Plan.{Plan}
use Rattle.step_rules.specs.declared.view.Kind.{Kind}
use Rattle.step_rules.specs.declared.view.Kind.TheVariants.{BackupLoad}
use Rattle.step_rules.specs.declared.view.Reader.{Reader}

-- versions rise, and the inline words under an even version stay
pub reader_moves : {p : Plan} {version version' : ℕ → ℕ} {inline inline' : ℕ → List ℕ} {seen : List Entry} {r : Reader} → ((k : ℕ) → version k ≤ version' k)
    → ((k : ℕ) → IsEven (version k) → version' k ≡ version k → inline' k ≡ inline k) → SeatReader p version inline seen r → SeatReader p version' inline' seen r
reader_moves {version = version} {version' = version'} {r = r} rises stays o = record {
  sound = o.sound;
  old = λ even. let a = o.old even in let b = rises r.cell in omega arith;
  words = λ even is. let was = before even is in ap (take (length r.words)) (stays r.cell (subst IsEven (sym was) even) (is ∙ sym was)) ∙ o.words even was;
  told = λ even unmarked is. o.told even unmarked (before even is);
}
  where
    before : IsEven r.version → version' r.cell ≡ r.version → version r.cell ≡ r.version
    before even is = let a = o.old even in let b = rises r.cell in omega arith

-- more of the history is seen
pub reader_more : {p : Plan} {version : ℕ → ℕ} {inline : ℕ → List ℕ} {seen : List Entry} {r : Reader} (rest : List Entry) → SeatReader p version inline seen r
    → SeatReader p version inline (seen ++ rest) r
reader_more {p = p} {seen = seen} {r = r} rest o = let at = o.sound.at in record {
  sound = record { cell = o.sound.cell; at = omega (arith, length-append seen rest); long = o.sound.long; whole = o.sound.whole };
  old = o.old;
  words = o.words;
  told = λ even unmarked is. subst (λ (l : List Entry). IsFirst (records_at p l r.cell) r.words) (sym (take-append-le r.at seen rest at)) (o.told even unmarked is);
}

-- nothing is read under an odd version
pub reader_none : {p : Plan} {version : ℕ → ℕ} {inline : ℕ → List ℕ} (seen : List Entry) → SeatReader p version inline seen (record { cell = 0; version = 1; words = []; unmarked = false; at = 0 })
reader_none seen = record {
  sound = record { cell = λ even. absurd (omega arith); at = omega arith; long = omega arith; whole = λ e. absurd cc };
  old = λ even. absurd (omega arith);
  words = λ even. absurd (omega arith);
  told = λ even. absurd (omega arith);
}

-- after a look at the cell k that found the word x, a reader is what it was, or it has found the backup unmarked after all words
pub sees_reader : (P : Reader → Type 0) (kind : Kind) (k x n : ℕ) (r : Reader) → P r
    → (k ≡ r.cell → IsEven x → length r.words ≡ NODE_WIDTH → P (record r { unmarked = true; at = n })) → P (sees_unmarked kind k x n r)
sees_reader P (BackupLoad cell) k x n r same now = ⊎_elim
    (λ t.
    let a = and_parts (eqb k r.cell) (is_even x && eqb (length r.words) NODE_WIDTH) t in
    let b = and_parts (is_even x) (eqb (length r.words) NODE_WIDTH) a.1 in
    subst P (sym (cond-true (eqb k r.cell && (is_even x && eqb (length r.words) NODE_WIDTH)) (record r { unmarked = true; at = n }) r t))
    (now (eqb-true k r.cell a.0) (eqb-true (x % 2) 0 b.0) (eqb-true (length r.words) NODE_WIDTH b.1)))
    (λ f. subst P (sym (cond-false (eqb k r.cell && (is_even x && eqb (length r.words) NODE_WIDTH)) (record r { unmarked = true; at = n }) r f)) same)
    (cases_Bool (eqb k r.cell && (is_even x && eqb (length r.words) NODE_WIDTH)))
sees_reader P _ k x n r same now = same
