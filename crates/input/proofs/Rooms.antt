-- How far a text can come.
use Rattle.std.proofs.Common.{◌≡◌, ◌≤◌, ◌^◌, ℕ, Result, Ok, Err, arith, unwrap_or}
use Rattle.std.specs.Prelude.{OnOk}
use Rattle.input.specs.Texts.{InRoom, with_last_tag}
use Rattle.input.specs.declared.records.kind.TagKind.{TagKind}
use Rattle.input.specs.declared.records.reading.Reading.{Reading}

pub roomier : (s : Reading) (m n : ℕ) → m ≤ n → InRoom s m → InRoom s n
roomier s m n le h = record { lines = omega (arith, h.lines); last = omega (arith, h.last); number = h.number }

pub added : (kind : TagKind) (u t : Reading) (n : ℕ) → t ≡ with_last_tag kind u → unwrap_or t.game.number 0 ≤ 2 ^ 40 → InRoom u n → InRoom t n
added kind u t n e number h = record { lines = rw e h.lines; last = rw e h.last; number = number }

pub on_ok : {T E : Type 0} (P Q : Type 0) (r : Result T E) → (P → Q) → OnOk r P → OnOk r Q
on_ok P Q (Ok x) f p = f p
on_ok P Q (Err e) f p = tt
