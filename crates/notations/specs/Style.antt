-- How the page looks, on a screen and on paper, in CSS.
use Rattle.std.specs.Prelude.{ℕ, ◌==◌, List, [], ◌∷◌, ◌++◌, codes, flat_map, if◌then◌else◌}

-- boards are side by side, as many as there is room for, below the heading
unfoldable pub page_style : List ℕ
page_style =
    codes "html{font:clamp(.8rem,4.2vw,1rem)/1.25 system-ui,sans-serif;color:#111;"
    ++ codes "background:#fff}\n"
    ++ codes "body{margin:clamp(.4rem,2vw,1rem)}\n"
    ++ codes "main{display:grid;gap:1rem;"
    ++ codes "grid-template-columns:repeat(auto-fill,minmax(min(23rem,100%),1fr))}\n"
    ++ codes "h1,h2,h3,p{margin:0}\n"
    ++ codes "h1{grid-column:1/-1;font-size:1.5rem;overflow-wrap:anywhere}\n"

-- a board isn't part of two pages; its middle is the table, green
unfoldable pub board_style : List ℕ
board_style =
    codes ".board{display:grid;grid-template:auto auto auto/1fr auto 1fr;gap:.6rem;"
    ++ codes "padding:.75rem;border:1px solid #bbb;border-radius:.5rem;box-sizing:border-box;"
    ++ codes "white-space:nowrap;overflow:auto;break-inside:avoid}\n"
    ++ codes "h2{grid-area:2/2;place-self:center;min-width:4rem;padding:.7rem .3rem;"
    ++ codes "font-size:1.25rem;text-align:center;border:.1rem solid #2e7d4f;background:#e8f3ec;"
    ++ codes "print-color-adjust:exact}\n"
    ++ codes "p{grid-area:1/1;font-size:.9rem}\n"

-- the table's sides are red and thick where they are vulnerable
unfoldable pub vulnerable_style : List ℕ
vulnerable_style =
    codes ".NS,.All{border-block:.35rem solid #c8102e}\n"
    ++ codes ".EW,.All{border-inline:.35rem solid #c8102e}\n"

-- the hands are around the table, each in its seat
unfoldable pub hand_style : List ℕ
hand_style =
    codes ".North{grid-area:1/2/2/4}\n"
    ++ codes ".East{grid-area:2/3;align-self:center}\n"
    ++ codes ".South{grid-area:3/2/4/4}\n"
    ++ codes ".West{grid-area:2/1;place-self:center end}\n"
    ++ codes "h3{font-size:.9rem}\n"
    ++ codes "small{font-weight:400;color:#555}\n"

-- the signs of the suits have room, and what is in <b> is red
unfoldable pub sign_style : List ℕ
sign_style =
    codes "i,b{display:inline-block;width:1.2em;font-style:normal;font-weight:400;"
    ++ codes "font-variant-emoji:text}\n"
    ++ codes "b{color:#c8102e}\n"

-- on paper, A4 or Letter, two boards are side by side, eight on a sheet
unfoldable pub paper_style : List ℕ
paper_style =
    codes "@media print{\n"
    ++ codes "html{font-size:8.5pt}\n"
    ++ codes "body{margin:0}\n"
    ++ codes "main{grid-template-columns:1fr 1fr;gap:3mm;padding-inline:1px}\n"
    ++ codes ".board{padding:.3rem .6rem;gap:.1rem .6rem}\n"
    ++ codes "h2{padding:.3rem}\n"
    ++ codes "}\n"

-- in a string of CSS: `<` is escaped, so that no text ends the style, and what ends the string
unfoldable pub css_byte : ℕ → List ℕ
css_byte byte =
    if byte == 0x3C then codes "\\3C "
    else if byte == 0x22 then codes "\\22 "
    else if byte == 0x5C then codes "\\5C "
    else byte ∷ []

abbrev pub css_string : List ℕ → List ℕ
css_string text = flat_map css_byte text

-- on paper the title is at the top of each sheet
unfoldable pub title_style : List ℕ → List ℕ
title_style title =
    codes "@page{margin:13mm 9mm 10mm;@top-left{content:\"" ++ css_string title
    ++ codes "\";font:bold 9pt system-ui,sans-serif}"

-- and the number of the sheet at the bottom of each
unfoldable pub number_style : List ℕ
number_style =
    codes "@bottom-right{content:counter(page) \"/\" counter(pages);"
    ++ codes "font:8pt system-ui,sans-serif}}\n"

-- but no title on the first, which has the heading
unfoldable pub first_style : List ℕ
first_style = codes "@page:first{@top-left{content:\"\"}}\n"

-- a hand alone is large, and in the middle
unfoldable pub alone_style : List ℕ
alone_style =
    codes ".board:has(div:only-of-type) h2{grid-area:1/3;place-self:start end;"
    ++ codes "padding:.2rem .5rem;font-size:1rem}\n"
    ++ codes ".board:has(div:only-of-type) div{grid-area:2/1/4/4;place-self:center;"
    ++ codes "font-size:1.6rem}\n"

-- what pages with this title share
unfoldable pub shared_style : List ℕ → List ℕ
shared_style title =
    page_style ++ board_style ++ vulnerable_style ++ hand_style ++ sign_style
    ++ title_style title ++ number_style ++ first_style ++ paper_style

-- that of a page with this title
unfoldable pub style : List ℕ → List ℕ
style title = shared_style title ++ alone_style

-- numbers of tricks are below one another, in columns of one width, and par is broken between its
-- contracts
unfoldable pub table_style : List ℕ
table_style =
    codes "table{border-spacing:0;text-align:right}\n"
    ++ codes "th{font-weight:400;color:#555}\n"
    ++ codes "td,th{padding:0;width:1.7em}\n"
    ++ codes "table i,table b,.par i,.par b{width:auto}\n"
    ++ codes ".par{white-space:normal}\n"
    ++ codes ".par span{display:inline-block}\n"

-- they are on the left of the hands, below and above
unfoldable pub beside_style : List ℕ
beside_style =
    codes "table{grid-area:3/1;place-self:end start;font-size:.8rem}\n"
    ++ codes ".par{padding-top:2.5em}\n"

-- that of a page with this title and with tricks
unfoldable pub style_with_tricks : List ℕ → List ℕ
style_with_tricks title = shared_style title ++ table_style ++ beside_style
