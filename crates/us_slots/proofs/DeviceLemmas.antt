-- What writes append, one after the other: whole pieces, and the front of a piece whose write failed.
use Rattle.std.proofs.Common.{ℕ, ◌+◌, Option, List, [], ◌++◌, length, length-append, take, drop, sym, subst, arith}
use Rattle.std.proofs.Math.Seq.{take-add, take-append-add}
use Rattle.std.proofs.lemmas.List.{take-append-le}
use Rattle.std.proofs.KnownBytes.{Appends-nil, Appends-trans, Appends-kept}
use Rattle.std.specs.Io.KnownBytes.{Appends, Keeps}
use Rattle.us_slots.specs.Devices.{AppendsFront}

-- nothing is appended where no write was made
pub appends_nothing : (a : Option (List ℕ)) → Appends a a []
appends_nothing a = Appends-nil a

-- a piece after a piece
pub appends_join : (a b c : Option (List ℕ)) (first second : List ℕ) → Appends a b first → Appends b c second →
    Appends a c (first ++ second)
appends_join a b c first second one two = Appends-trans a b c first second one two

-- what keeps the bytes after a piece, such as a flush, keeps the piece
pub appends_keep : (a b c : Option (List ℕ)) (piece : List ℕ) → Appends a b piece → Keeps b c → Appends a c piece
appends_keep a b c piece one kept = Appends-kept a b c piece one kept

-- more of a piece after its first bytes
pub appends_take : (a b c : Option (List ℕ)) (piece : List ℕ) (done more : ℕ) → Appends a b (take done piece) →
    Appends b c (take more (drop done piece)) → Appends a c (take (done + more) piece)
appends_take a b c piece done more one two =
    subst (Appends a c) (sym (take-add done more piece)) (appends_join a b c (take done piece) (take more (drop done piece)) one two)

-- the front of a piece is one of the piece with more behind it
pub appends_front_longer : (a b : Option (List ℕ)) (piece behind : List ℕ) → AppendsFront a b piece →
    AppendsFront a b (piece ++ behind)
appends_front_longer a b piece behind (n, below, front) = (
  n,
  omega (arith, length-append piece behind),
  subst (Appends a b) (sym (take-append-le n piece behind (omega (arith, below)))) front,
)

-- the front of a piece after whole pieces
pub appends_front_after : (a b c : Option (List ℕ)) (whole piece : List ℕ) → Appends a b whole →
    AppendsFront b c piece → AppendsFront a c (whole ++ piece)
appends_front_after a b c whole piece one (n, below, front) = (
  length whole + n,
  omega (arith, length-append whole piece),
  subst (Appends a c) (sym (take-append-add whole piece n)) (appends_join a b c whole (take n piece) one front),
)
