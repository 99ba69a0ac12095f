-- What a line's writing comes to.
use Rattle.std.specs.Prelude.{Result, Ok, Err, IfErr, OnOk, OnErr}
use Rattle.std.proofs.Common.{◌≡◌, ℕ, List, length, take, Option, sym, subst, arith}
use Rattle.std.proofs.lemmas.List.{take_all}
use Rattle.wire_ports.specs.Bytes.{Appends}
use Rattle.wire_ports.specs.Ports.{HasRisen}
use Rattle.wire_ports.specs.declared.sink.PutFailed.{PutFailed}
use Rattle.flow_tally.specs.Telling.{Tells}

told : {T : Type 0} (line : List ℕ) (before after : Option (List ℕ)) (old new : ℕ) (result : Result T PutFailed)
    → OnOk result (Appends before line after) → IfErr result (λ e. Appends before (take e.written line) after) → OnErr result (HasRisen old new)
    → Tells line before after old new
told line before after old new (Ok _) whole front risen =
    let all : take (length line) line ≡ line = take_all (length line) line (omega arith) in
    (length line, subst (λ (z : List ℕ). Appends before z after) (sym all) whole, λ shorter. absurd (omega arith))
told line before after old new (Err e) whole front risen = (e.written, front, λ _. risen)

-- a line whose bytes were put is told, whole or in part
pub line_told : {T : Type 0} (line bytes : List ℕ) (before after : Option (List ℕ)) (old new : ℕ) (result : Result T PutFailed) → bytes ≡ line
    → OnOk result (Appends before bytes after) → IfErr result (λ e. Appends before (take e.written bytes) after) → OnErr result (HasRisen old new)
    → Tells line before after old new
line_told line bytes before after old new result same whole front risen =
    subst (λ (z : List ℕ). Tells z before after old new) same (told bytes before after old new result whole front risen)
