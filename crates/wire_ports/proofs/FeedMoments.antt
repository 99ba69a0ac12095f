-- Reads one after the other, between moments of a feed.
use Rattle.std.specs.Prelude.{IfSome, ◌↔◌, option_map}
use Rattle.std.proofs.Common.{◌≡◌, ◌∙◌, ℕ, ◌-◌, ◌≤◌, ap, refl, subst, sym, true, Option, Some, None, List, [], ◌++◌, length, arith}
use Rattle.std.proofs.lemmas.List.{append-nil, length-append, nil_from_length}
use Rattle.wire_ports.proofs.Bytes.{after_more}
use Rattle.wire_ports.specs.Bytes.{IsReadOf}
use Rattle.wire_ports.specs.FeedMoments.{FeedAt, HasGiven, HasFailed, EndsEarly, ReadsBehind}
use Rattle.wire_ports.specs.Ports.{HasRisen}
use Rattle.wire_ports.specs.declared.feed.FailedIn.TheVariants.{Read}
use Rattle.wire_ports.specs.declared.whole.ReadEnd.{ReadEnd}
use Rattle.wire_ports.specs.declared.whole.ReadEnd.TheVariants.{Failed, TooLarge, NoMemory}

none_read : (left : Option (List ℕ)) → IsReadOf left [] left
none_read None = refl
none_read (Some bytes) = (bytes, refl, refl)

-- no read was made yet
pub none_given : (now : FeedAt) → now.started ≡ true → HasGiven [] now now
none_given now started = record {
  same_files = refl;
  same_file = refl;
  goes_on = started;
  read = none_read now.left;
  count = omega arith;
  quiet = refl;
  steady = refl;
}

pub given_more : {xs ys : List ℕ} {a b c : FeedAt} → HasGiven xs a b → HasGiven ys b c → HasGiven (xs ++ ys) a c
given_more {xs} {ys} {a} {b} {c} first second = record {
  same_files = second.same_files ∙ first.same_files;
  same_file = second.same_file ∙ first.same_file;
  goes_on = second.goes_on;
  read = after_more a.left b.left c.left xs ys first.read second.read;
  count = omega (arith, first.count, second.count, length-append xs ys);
  quiet = second.quiet ∙ first.quiet;
  steady = second.steady ∙ first.steady;
}

-- bytes that were given, and then more until a read failed
pub failed_later : {xs ys : List ℕ} {a b c : FeedAt} → HasGiven xs a b → HasFailed ys b c → HasFailed (xs ++ ys) a c
failed_later {xs} {ys} {a} {b} {c} first second = record {
  same_files = second.same_files ∙ first.same_files;
  same_file = second.same_file ∙ first.same_file;
  read = after_more a.left b.left c.left xs ys first.read second.read;
  count = omega (arith, first.count, second.count, length-append xs ys);
  cause = second.cause ∙ ap (λ (file : ℕ). Some (file, Read)) first.same_file;
  risen = subst (λ (n : ℕ). HasRisen n c.faults) first.steady second.risen;
  later = omega (arith, second.later, first.steady);
}

-- after some bytes an end of the rest is one of the whole
pub ends_later : {xs : List ℕ} {a b : FeedAt} (n most : ℕ) (c : FeedAt) (end : ReadEnd) → HasGiven xs a b → n ≡ length xs → n ≤ most → EndsEarly (most - n) b c end → EndsEarly most a c end
ends_later {xs} n most c Failed first count few ends =
    (xs ++ ends.0, omega (arith, ends.1, length-append xs ends.0), failed_later first ends.2)
ends_later {xs} n most c TooLarge first count few ends =
    (xs ++ ends.0, omega (arith, ends.1, length-append xs ends.0), given_more first ends.2)
ends_later {xs} n most c NoMemory first count few ends =
    (xs ++ ends.0, omega (arith, ends.1, length-append xs ends.0), given_more first ends.2)

-- a read that gives nothing comes at the file's end
pub nothing_left : (old new : Option (List ℕ)) (read : List ℕ) (n : ℕ) → IsReadOf old read new → IfSome old (λ bytes. (n ≡ 0) ↔ (length bytes ≡ 0)) → n ≡ 0 → new ≡ option_map (λ _. []) new
nothing_left None new read n is end none = subst (λ (o : Option (List ℕ)). o ≡ option_map (λ _. []) o) (sym is) refl
nothing_left (Some before) new read n is end none =
    let empty : length before ≡ 0 = end.0 none in
    let gone : is.0 ≡ [] = nil_from_length is.0 (omega (arith, ap length is.1, length-append read is.0)) in
    subst (λ (o : Option (List ℕ)). o ≡ option_map (λ _. []) o) (sym (is.2 ∙ ap (λ (z : List ℕ). Some z) gone)) refl

-- the last read gave nothing
pub given_to_end : {xs there now : List ℕ} {n : ℕ} {a b c : FeedAt} → HasGiven xs a b → ReadsBehind there b n now c → n ≡ 0 → (HasGiven xs a c) × (now ≡ there)
given_to_end {xs} {there} {now} {n} {a} {b} {c} first reads zero =
    let none : reads.bytes ≡ [] = nil_from_length reads.bytes (omega (arith, reads.count, zero)) in (
      subst (λ (z : List ℕ). HasGiven z a c) (ap (λ (z : List ℕ). xs ++ z) none ∙ append-nil xs) (given_more first reads.given),
      reads.behind ∙ ap (λ (z : List ℕ). there ++ z) none ∙ append-nil there,
    )
