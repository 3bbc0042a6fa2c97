-- What a caption is, and which captions a format can write.
use Rattle.std.specs.Prelude.{ℕ, ◌==◌, ◌&&◌, ◌||◌, Bool, not, List, Option, None, Some}
use Rattle.std.specs.Prelude.{IfSome, if◌then◌else◌, length, nat_le, nat_lt}
use Rattle.std.specs.List.{list_all}
use Rattle.std.specs.Str.{chars, is_utf8}
use Rattle.boards.specs.Headings.{HeadingView}
use Rattle.boards.specs.Labels.{IsLabel}
use Rattle.boards.specs.declared.format.Format.{Format}
use Rattle.boards.specs.declared.format.Format.TheVariants.{Pbn}

-- ---- characters

abbrev pub is_among : (first last c : ℕ) → Bool
is_among first last c = nat_le first c && nat_le c last

-- C0; DEL and C1; the separators of lines and paragraphs, and what sets the direction of text
abbrev pub is_control : ℕ → Bool
is_control c =
    nat_lt c 0x20 || is_among 0x7F 0x9F c || is_among 0x2028 0x202E c || is_among 0x2066 0x2069 c

abbrev pub is_printable : ℕ → Bool
is_printable c = not (is_control c)

-- ---- captions

-- well-formed UTF-8 of at most 100 characters, all of them printable
abbrev pub is_caption : List ℕ → Bool
is_caption text =
    is_utf8 text && (nat_le (length (chars text)) 100 && list_all is_printable (chars text))

-- the text, if it is a caption
abbrev pub caption_of : List ℕ → Option (List ℕ)
caption_of text = if is_caption text then Some text else None

-- ---- labels

-- a printable character of ASCII other than the quote and the backslash
abbrev pub is_label_byte : ℕ → Bool
is_label_byte byte =
    nat_le 0x20 byte && (nat_le byte 0x7E && (not (byte == 0x22) && not (byte == 0x5C)))

-- whether the text is a label: `IsLabel` as a test
abbrev pub is_label : List ℕ → Bool
is_label text = nat_le (length text) 100 && list_all is_label_byte text

-- a text given, if it is a label
abbrev pub label_of : Option (List ℕ) → Option (List ℕ)
label_of None = None
label_of (Some text) = if is_label text then Some text else None

abbrev pub labels_of : HeadingView → HeadingView
labels_of given = record {
  event = label_of given.event;
  site = label_of given.site;
  date = given.date;
}

-- all texts given are labels
pub record AreLabels (given : HeadingView) : Type 0 where
  pub event : IfSome given.event IsLabel
  pub site : IfSome given.site IsLabel

-- the captions that a format can write: PBN has labels
abbrev pub captions_in : Format → HeadingView → HeadingView
captions_in Pbn given = labels_of given
captions_in _ given = given
