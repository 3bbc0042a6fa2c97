-- What pages of HTML share: how they begin and end, and texts in them.
use Rattle.std.specs.Prelude.{ℕ, ◌==◌, List, [], ◌∷◌, ◌++◌, codes, if◌then◌else◌}
use Rattle.std.specs.List.{flat_map}

-- &, < and > as HTML has them in a text
unfoldable pub escaped_byte : ℕ → List ℕ
escaped_byte byte =
    if byte == 0x26 then codes "&amp;"
    else if byte == 0x3C then codes "&lt;"
    else if byte == 0x3E then codes "&gt;"
    else byte ∷ []

abbrev pub escaped : List ℕ → List ℕ
escaped text = flat_map escaped_byte text

-- up to the title
unfoldable pub opening : List ℕ
opening =
    codes "<!DOCTYPE html>\n<html lang=\"en\">\n<head>\n<meta charset=\"utf-8\">\n"
    ++ codes "<meta name=\"viewport\" content=\"width=device-width, initial-scale=1\">\n<title>"

-- up to the style, with the title
unfoldable pub html_start : List ℕ → List ℕ
html_start title = opening ++ escaped title ++ codes "</title>\n<style>\n"

-- after the style: the body begins with the title as its heading
unfoldable pub body_start : List ℕ → List ℕ
body_start title =
    codes "</style>\n</head>\n<body>\n<main>\n<h1>" ++ escaped title ++ codes "</h1>\n"

-- after all else
unfoldable pub html_end : List ℕ
html_end = codes "</main>\n</body>\n</html>\n"
