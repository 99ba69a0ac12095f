-- What the stands of a closed object's line add up to.
use Rattle.std.proofs.Common.{◌≡◌, ◌≢◌, ◌∙◌, ℕ, Bool, ◌<◌, suc, zero, true, false, cond, eq-eqb, ne_eqb, List, [], ◌∷◌, ◌++◌, Option, append-nil, append_assoc, refl, sym, ap, subst, ⊎_elim}
use Rattle.std.specs.List.Sorted.{IsPermutation}
use Rattle.std.specs.List.{AllByRecursion, AllZip}
use Rattle.std.proofs.lemmas.Bool.{cases_Bool, cases_eq, false≢true}
use Rattle.std.proofs.lemmas.List.Sorted.{IsPermutation-cons, IsPermutation-refl, IsPermutation-trans}
use Rattle.flow_fold.specs.Flows.{Flows}
use Rattle.flow_fold.specs.Fold.{IsFold}
use Rattle.flow_fold.specs.declared.key.Key.{Key}
use Rattle.flow_fold.specs.declared.value.Value.{Value}
use Rattle.seat_history.specs.Contents.{Contents, set_at}
use Rattle.seat_history.specs.Object.{Object, object_after}
use Rattle.seat_history.specs.Step.{reply_to}
use Rattle.seat_history.specs.declared.call.Call.{Call}
use Rattle.seat_history.specs.declared.entry.Entry.{Entry}
use Rattle.seat_history.specs.declared.reply.Reply.TheVariants.{Full}
use Rattle.seat_history.specs.declared.reply.Reply.{Reply}
use Rattle.step_rules.proofs.Line.Lines.{Tells}
use Rattle.step_rules.specs.History.{IsKey}
use Rattle.step_rules.specs.Lawful.{IsReply, entry_of, is_full}
use Rattle.step_rules.specs.Line.{Replays, after_stand, after_stands, log_after, stands_by}
use Rattle.step_rules.specs.declared.plan.Plan.{Plan}
use Rattle.step_rules.specs.declared.view.Stand.{Stand}
use Rattle.tally_core.proofs.AddsFold.{adds_fold, others_still}
use Rattle.tally_core.proofs.Folding.{flow_in}
use Rattle.tally_core.proofs.Joined.{first_taken, joined_same}
use Rattle.tally_core.specs.Adding.{Adds, AreInRange, IsTallyCall, adding_in, is_adding, is_adding_reply, key_words, IsValueInRange}
use Rattle.tally_core.specs.Tallying.{joined}

-- of a stand that isn't Full the reply is the object's
reply_is : (p : Plan) (stock : ℕ) (contents : Contents) (log : List Entry) (held : Option (List ℕ)) (call : Call) (reply : Reply) → IsReply p stock contents log held call reply
    → is_full reply ≡ false → reply_to contents held call ≡ reply
reply_is p stock contents log held call (Full need free) right answered = absurd (false≢true (sym answered))
reply_is p stock contents log held call _ right answered = right

not_full : (reply : Reply) → is_adding_reply reply ≡ true → is_full reply ≡ false
not_full (Full need free) adding = sym adding
not_full _ adding = refl

-- a stand that adds a pair
adding_after : (p : Plan) (done : Flows) (object : Object) (log : List Entry) (s : Stand) (pair : Key × Value) → IsKey (key_words pair.0) × IsValueInRange pair.1 → Adds pair s
    → IsReply p s.stock object.contents log (object.held s.by) s.call s.reply → is_adding s ≡ true → IsFold done (flow_in object.contents.values)
    → IsFold (done ++ pair ∷ []) (flow_in (after_stand object s).contents.values)
adding_after p done object log s pair range adds right adding fold =
    let full : is_full s.reply ≡ false = not_full s.reply adding in
    subst (λ b. IsFold (done ++ pair ∷ []) (flow_in (cond b object (object_after object (entry_of s))).contents.values)) (sym full)
    (adds_fold done object.contents (object.held s.by) s.call s.reply pair range.0 range.1 adds (reply_is p s.stock object.contents log (object.held s.by) s.call s.reply right full) fold)

-- any other
still_after : (p : Plan) (done : Flows) (object : Object) (log : List Entry) (s : Stand) → IsReply p s.stock object.contents log (object.held s.by) s.call s.reply → IsTallyCall s
    → is_adding s ≡ false → IsFold done (flow_in object.contents.values) → IsFold done (flow_in (after_stand object s).contents.values)
still_after p done object log s right call not_adding fold = either (is_full s.reply) (reply_is p s.stock object.contents log (object.held s.by) s.call s.reply right)
  where
    either : (b : Bool) → (b ≡ false → reply_to object.contents (object.held s.by) s.call ≡ s.reply) → IsFold done (flow_in (cond b object (object_after object (entry_of s))).contents.values)
    either true answer = fold
    either false answer = subst (λ values. IsFold done (flow_in values)) (sym (others_still object.contents (object.held s.by) s.call s.reply call.values (answer refl) not_adding)) fold

-- the lists have the pairs that the callers' stands of the line add
abbrev pub AreAdded : Plan → List Stand → (ℕ → Flows) → Type 0
AreAdded p line lists = (w : ℕ) → w < p.seats → AllZip Adds (lists w) (adding_in (stands_by w line)) × AreInRange (lists w) × AllByRecursion IsTallyCall (stands_by w line)

-- what an object has after the line is the fold of what it had and of pairs that are, in another order, those that the stands add
pub record AddsUp (n : ℕ) (done : Flows) (lists : ℕ → Flows) (end : Object) : Type 0 where
  pub more : Flows
  pub same : IsPermutation more (joined n lists)
  pub fold : IsFold (done ++ more) (flow_in end.contents.values)

-- the first stand of a line
module _ (p : Plan) (s : Stand) (line : List Stand) (there : s.by < p.seats) where
  whole : stands_by s.by (s ∷ line) ≡ s ∷ stands_by s.by line
  whole = ap (λ b. cond b (s ∷ stands_by s.by line) (stands_by s.by line)) (eq-eqb s.by s.by refl)

  others : (w : ℕ) → s.by ≢ w → stands_by w (s ∷ line) ≡ stands_by w line
  others w ne = ap (λ b. cond b (s ∷ stands_by w line) (stands_by w line)) (ne_eqb s.by w ne)

  module _ (lists : ℕ → Flows) (added : AreAdded p (s ∷ line) lists) where
    own : AllZip Adds (lists s.by) (adding_in (s ∷ stands_by s.by line)) × AllByRecursion IsTallyCall (s ∷ stands_by s.by line)
    own = subst (λ (l : List Stand). AllZip Adds (lists s.by) (adding_in l) × AllByRecursion IsTallyCall l) whole ((added s.by there).0, (added s.by there).2)

    -- a stand that adds nothing
    passed : is_adding s ≡ false → AreAdded p line lists
    passed not_adding w l = ⊎_elim
        (λ e. subst (λ (x : ℕ). AllZip Adds (lists x) (adding_in (stands_by x line)) × AreInRange (lists x) × AllByRecursion IsTallyCall (stands_by x line)) e (
          subst (λ b. AllZip Adds (lists s.by) (cond b (s ∷ adding_in (stands_by s.by line)) (adding_in (stands_by s.by line)))) not_adding own.0,
          (added s.by there).1,
          own.1.1,
        ))
        (λ ne. subst (λ (l : List Stand). AllZip Adds (lists w) (adding_in l) × AreInRange (lists w) × AllByRecursion IsTallyCall l) (others w ne) (added w l))
        (cases_eq s.by w)

    adding_first : is_adding s ≡ true → AllZip Adds (lists s.by) (s ∷ adding_in (stands_by s.by line))
    adding_first adding = subst (λ b. AllZip Adds (lists s.by) (cond b (s ∷ adding_in (stands_by s.by line)) (adding_in (stands_by s.by line)))) adding own.0

    -- a stand that adds a pair
    module _ (pair : Key × Value) (rest : Flows) (is : lists s.by ≡ pair ∷ rest) (adding : is_adding s ≡ true) where
      first : (Adds pair s × AllZip Adds rest (adding_in (stands_by s.by line))) × AreInRange (pair ∷ rest)
      first = subst (λ (l : Flows). AllZip Adds l (s ∷ adding_in (stands_by s.by line)) × AreInRange l) is (adding_first adding, (added s.by there).1)

      taken : AreAdded p line (set_at lists s.by rest)
      taken w l = ⊎_elim
          (λ e. let now : set_at lists s.by rest w ≡ rest = ap (λ b. cond b rest (lists w)) (eq-eqb s.by w e) in
          subst (λ (x : Flows). AllZip Adds x (adding_in (stands_by w line)) × AreInRange x × AllByRecursion IsTallyCall (stands_by w line)) (sym now)
          (subst (λ x. AllZip Adds rest (adding_in (stands_by x line)) × AreInRange rest × AllByRecursion IsTallyCall (stands_by x line)) e (first.0.1, first.1.1, own.1.1)))
          (λ ne. let now : set_at lists s.by rest w ≡ lists w = ap (λ b. cond b rest (lists w)) (ne_eqb s.by w ne) in
          subst (λ (x : Flows). AllZip Adds x (adding_in (stands_by w line)) × AreInRange x × AllByRecursion IsTallyCall (stands_by w line)) (sym now)
          (subst (λ (l : List Stand). AllZip Adds (lists w) (adding_in l) × AreInRange (lists w) × AllByRecursion IsTallyCall l) (others w ne) (added w l)))
          (cases_eq s.by w)

-- the pair that a stand adds
some_pair : (pairs : Flows) (s : Stand) (stands : List Stand) → AllZip Adds pairs (s ∷ stands) → (pair : Key × Value) × (rest : Flows) × (pairs ≡ pair ∷ rest)
some_pair [] s stands zip = absurd zip
some_pair (pair ∷ rest) s stands zip = (pair, rest, refl)

abbrev no_lists : ℕ → Flows
no_lists w = []

none_left : (n : ℕ) (lists : ℕ → Flows) → ((w : ℕ) → w < n → lists w ≡ []) → joined n lists ≡ []
none_left n lists none = joined_same n lists no_lists none ∙ empty n
  where
    empty : (m : ℕ) → joined m no_lists ≡ []
    empty zero = refl
    empty (suc m) = ap (λ (l : Flows). l ++ []) (empty m)

no_pairs : (pairs : Flows) → AllZip Adds pairs [] → pairs ≡ []
no_pairs [] zip = refl
no_pairs (pair ∷ pairs) zip = absurd zip

pub along : (p : Plan) (history : List Entry) (object : Object) (log : List Entry) (line : List Stand) (done : Flows) (lists : ℕ → Flows) → Replays p object log line → Tells p history object log line
    → AreAdded p line lists → IsFold done (flow_in object.contents.values) → AddsUp p.seats done lists (after_stands object line)
along p history object log [] done lists replays tells added fold = record {
  more = [];
  same = subst (λ (l : Flows). IsPermutation [] l) (sym (none_left p.seats lists (λ w l. no_pairs (lists w) (added w l).0))) (IsPermutation-refl []);
  fold = subst (λ (l : Flows). IsFold l (flow_in object.contents.values)) (sym (append-nil done)) fold;
}
along p history object log (s ∷ line) done lists replays tells added fold = ⊎_elim
    (λ adding. let found = some_pair (lists s.by) s (adding_in (stands_by s.by line)) (adding_first p s line tells.0 lists added adding) in
    let pair = found.0 in
    let rest = found.1 in
    let one = first p s line tells.0 lists added pair rest found.2 adding in
    let later = along p history (after_stand object s) (log_after log object s) line (done ++ pair ∷ []) (set_at lists s.by rest) replays.1 tells.3
    (taken p s line tells.0 lists added pair rest found.2 adding) (adding_after p done object log s pair one.1.0 one.0.0 replays.0.reply adding fold) in
    record {
      more = pair ∷ later.more;
      same = IsPermutation-trans _ _ _ (IsPermutation-cons pair _ _ later.same) (first_taken p.seats lists s.by pair rest tells.0 found.2);
      fold = subst (λ (l : Flows). IsFold l (flow_in (after_stands object (s ∷ line)).contents.values)) (append_assoc done (pair ∷ []) later.more) later.fold;
    })
    (λ not_adding. let later = along p history (after_stand object s) (log_after log object s) line done lists replays.1 tells.3 (passed p s line tells.0 lists added not_adding)
    (still_after p done object log s replays.0.reply (own p s line tells.0 lists added).1.0 not_adding fold) in
    record { more = later.more; same = later.same; fold = later.fold })
    (cases_Bool (is_adding s))
