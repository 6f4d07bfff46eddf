-- What contracts see of a `SplitCookies`.
use Rattle.std.specs.Prelude.{ℕ, List, option_copied}
use Rattle.cookie_text.specs.declared.split.Way.{Way as Held}
use Rattle.cookie_text.specs.declared.split.Way.TheVariants as held
use Rattle.cookie_text.specs.declared.split.SplitCookies.TheInside.{Inside}
use Rattle.cookie_text.specs.Splitting.{Way, Splitting, texts_left, Plain, Encoded, PlainOwned, EncodedOwned}
use Rattle.cookie_text.specs.SplittingLeft.{owned_left}

abbrev pub way_view : Held → Way
way_view held.Plain = Plain
way_view (held.Encoded alloc) = Encoded
way_view (held.PlainOwned alloc) = PlainOwned
way_view (held.EncodedOwned alloc) = EncodedOwned

-- of the borrowed text, or of the owned one
abbrev pub left_by : Way → List (List ℕ) → List (List ℕ) → List (List ℕ)
left_by Plain borrowed owned = borrowed
left_by Encoded borrowed owned = borrowed
left_by PlainOwned borrowed owned = owned
left_by EncodedOwned borrowed owned = owned

abbrev pub splitting_of : Inside → Splitting
splitting_of s = record {
  way = way_view s.way;
  left = left_by (way_view s.way) (texts_left (option_copied s.text)) (owned_left s.pieces);
}
