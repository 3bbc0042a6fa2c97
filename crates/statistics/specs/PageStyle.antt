-- How the page of a table looks, in CSS.
use Rattle.std.specs.Prelude.{ℕ, List, ◌++◌, codes}

-- the heading, and lines of text
unfoldable pub text_style : List ℕ
text_style =
    codes "html{font:1rem/1.4 system-ui,sans-serif;color:#111;background:#fff}\n"
    ++ codes "body{margin:1rem}\n"
    ++ codes "main{max-width:60rem;margin:0 auto}\n"
    ++ codes "h1{margin:0;font-size:1.5rem;overflow-wrap:anywhere}\n"
    ++ codes "p{margin:.5rem 0}\n"

-- numbers are set right; a wide table is moved in its own place
unfoldable pub table_style : List ℕ
table_style =
    codes "div{overflow-x:auto}\n"
    ++ codes "table{border-collapse:collapse;font-variant-numeric:tabular-nums}\n"
    ++ codes "th,td{padding:.15rem .6rem;text-align:right;font-weight:400;white-space:nowrap}\n"
    ++ codes "thead{border-bottom:1px solid #999}\n"
    ++ codes "tfoot{border-top:1px solid #999}\n"
    ++ codes ".all{border-left:1px solid #999}\n"

-- bars, and the shades of cells
unfoldable pub chart_style : List ℕ
chart_style =
    codes ".bars{width:100%}\n"
    ++ codes ".bar{width:100%;padding-right:0}\n"
    ++ codes "i{display:block;height:1rem;min-width:2px;background:#2e7d4f}\n"
    ++ codes ".cells tbody td{background:rgba(46,125,79,calc(var(--share,0)*.7))}\n"
    ++ codes "i,td{print-color-adjust:exact;-webkit-print-color-adjust:exact}\n"

unfoldable pub paper_style : List ℕ
paper_style = codes "@page{margin:10mm}\n@media print{\nhtml{font-size:9pt}\nbody{margin:0}\n}\n"

unfoldable pub style : List ℕ
style = text_style ++ table_style ++ chart_style ++ paper_style
