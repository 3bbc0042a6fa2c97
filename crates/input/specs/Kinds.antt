-- The names of the tags that say something of a board.
use Rattle.std.specs.Prelude.{ℕ, List, Option, None, Some, bytes_eq, codes, if◌then◌else◌}
use Rattle.input.specs.declared.records.kind.TagKind.{TagKind}
use Rattle.input.specs.declared.records.kind.TagKind.TheVariants.{Event, Site, Date, Board, Dealer}
use Rattle.input.specs.declared.records.kind.TagKind.TheVariants.{Vulnerable, Deal}
use Rattle.input.specs.declared.records.kind.TagKind.TheVariants.{Tricks, Score, Contract}

unfoldable pub kind_of : List ℕ → Option TagKind
kind_of name =
    if bytes_eq name (codes "Event") then Some Event
    else (if bytes_eq name (codes "Site") then Some Site
    else (if bytes_eq name (codes "Date") then Some Date
    else (if bytes_eq name (codes "Board") then Some Board
    else (if bytes_eq name (codes "Dealer") then Some Dealer
    else (if bytes_eq name (codes "Vulnerable") then Some Vulnerable
    else (if bytes_eq name (codes "Deal") then Some Deal
    else (if bytes_eq name (codes "DoubleDummyTricks") then Some Tricks
    else (if bytes_eq name (codes "OptimumScore") then Some Score
    else (if bytes_eq name (codes "ParContract") then Some Contract else None)))))))))
