-- How the sheet looks, on a screen and on paper, in CSS. What it has from the page is cited.
use Rattle.std.specs.Prelude.{ℕ, List, ◌++◌, codes}
use Rattle.notations.specs.Style.{number_style, page_style, sign_style, table_style, title_style}
use Rattle.notations.specs.Style.{vulnerable_style}

-- a board isn't part of two pages; above on the left are its number, dealer and vulnerability
unfoldable pub section_style : List ℕ
section_style =
    codes "*{box-sizing:border-box}\n"
    ++ codes ".board{display:grid;grid-template:auto auto auto/7fr auto 9fr;"
    ++ codes "gap:.4rem;padding:.6rem;border:1px solid #bbb;break-inside:avoid}\n"
    ++ codes ".board>div{overflow-wrap:anywhere}\n"
    ++ codes "h2{grid-area:1/1;font-size:1.6em;line-height:1}\n"
    ++ codes "p{grid-area:1/1;margin-top:1.85em;white-space:nowrap}\n"

-- the table in the middle has the points
unfoldable pub middle_style : List ℕ
middle_style =
    codes ".middle{grid-area:2/2;display:grid;place-content:space-evenly;width:5em;height:4.3em;"
    ++ codes "border:.1em solid #2e7d4f;text-align:center}\n"

-- the hands are around it, and the points within, each in its seat
unfoldable pub seat_style : List ℕ
seat_style =
    codes ".North{grid-area:1/2}\n"
    ++ codes ".East{grid-area:2/3;align-self:center}\n"
    ++ codes ".South{grid-area:3/2}\n"
    ++ codes ".West{grid-area:2/1;place-self:center end}\n"

-- the tricks are above on the right, and par is below
unfoldable pub corner_style : List ℕ
corner_style =
    codes "table{grid-area:1/3;place-self:start end}\n"
    ++ codes ".par{grid-area:3/3;place-self:end;margin:0;text-align:right}\n"
    ++ codes "@media screen{p,table,.middle{font-size:.9em}}\n"

-- on paper, A4 or Letter, three boards are side by side, eighteen on a sheet
unfoldable pub print_style : List ℕ
print_style =
    codes "@page{margin:12mm 8mm 9mm}\n"
    ++ codes "@media print{\n"
    ++ codes "html{font:8pt/1.08 system-ui,sans-serif}\n"
    ++ codes "body{margin:0}\n"
    ++ codes "h1{display:none}\n"
    ++ codes "main{grid-template-columns:repeat(3,1fr);gap:1.2mm;padding-inline:1px}\n"
    ++ codes ".board{gap:0 .8mm;padding:.8mm 1mm;min-height:41.6mm}\n"
    ++ codes "}\n"

-- that of a sheet with this title
unfoldable pub sheet_style : List ℕ → List ℕ
sheet_style title =
    page_style ++ section_style ++ middle_style ++ vulnerable_style ++ seat_style ++ sign_style
    ++ table_style ++ corner_style ++ title_style title ++ number_style ++ print_style
