-- Where things are in a printer's buffer.
use Rattle.std.specs.Prelude.{◌≡◌, ℕ, ◌≤◌, List, drop, take, decimal}
use Rattle.pbn_text.specs.Games.{HeadingView}
use Rattle.pbn_text.specs.internal.Lines.{prefix_text}

-- where a board's number ends
abbrev pub number_end : ℕ
number_end = 272

-- the heading's lines and the opening of the board's line start at `start`, and the board's number
-- at `number_start`
pub record IsPrefix (buffer : List ℕ) (heading : HeadingView) (start number_start number : ℕ)
    : Type 0 where
  pub order : start ≤ number_start
  pub inside : number_start ≤ number_end
  pub lines : drop start (take number_start buffer) ≡ prefix_text heading
  pub digits : drop number_start (take number_end buffer) ≡ decimal number

-- the last text is from `start` to `end`
pub record IsPrinted (buffer : List ℕ) (heading : HeadingView) (start number_start number end : ℕ)
    : Type 0 where
  pub prefix : IsPrefix buffer heading start number_start number
  pub order : start ≤ end
  pub inside : end ≤ 512
