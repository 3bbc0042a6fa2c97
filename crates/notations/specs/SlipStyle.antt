-- How curtain cards look, on a screen and on paper, in CSS. What they have from the page is cited.
use Rattle.std.specs.Prelude.{ℕ, List, ◌++◌, codes}
use Rattle.notations.specs.Style.{number_style, page_style, sign_style, title_style}

-- slips are side by side, with broken lines between them to be cut
unfoldable pub cut_style : List ℕ
cut_style =
    codes "main{gap:0;grid-template-columns:repeat(auto-fill,minmax(min(13.5rem,100%),1fr))}\n"
    ++ codes ".slip{display:grid;grid-template-columns:1fr auto;align-items:start;gap:.3rem;"
    ++ codes "padding:.7rem;border:1px dashed #777;white-space:nowrap;overflow:auto;"
    ++ codes "break-inside:avoid}\n"

-- above are the board's number and the seat, and on the right its dealer and vulnerability
unfoldable pub card_style : List ℕ
card_style =
    codes "h2{font-size:1.2rem}\n"
    ++ codes "p{text-align:right;font-size:.8rem}\n"
    ++ codes "div{grid-column:1/3;font-size:1.2rem}\n"

-- on paper, A4 or Letter, four are side by side, the hands of a board
unfoldable pub four_style : List ℕ
four_style =
    codes "@media print{\n"
    ++ codes "html{font-size:9pt}\n"
    ++ codes "body{margin:0}\n"
    ++ codes "h1{display:none}\n"
    ++ codes "main{grid-template-columns:repeat(4,1fr);padding-inline:1px}\n"
    ++ codes "}\n"

-- that of slips with this title
unfoldable pub slip_style : List ℕ → List ℕ
slip_style title =
    page_style ++ cut_style ++ card_style ++ sign_style ++ title_style title ++ number_style
    ++ four_style
