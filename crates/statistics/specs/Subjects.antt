-- What is asked, as the enum keeps it.
use Rattle.statistics.specs.declared.subject.Subject.{Subject as ASubject}
use Rattle.statistics.specs.declared.subject.Subject.TheVariants.{DealsAlone, ByEach, ByOne, ByTwo}
use Rattle.statistics.specs.Counting.{Subject, by_each, by_one, by_two, deals_alone}

abbrev pub subject_of : ASubject → Subject
subject_of DealsAlone = deals_alone
subject_of (ByOne asked) = by_one asked
subject_of (ByTwo of by) = by_two of by
subject_of (ByEach asked) = by_each asked.items
