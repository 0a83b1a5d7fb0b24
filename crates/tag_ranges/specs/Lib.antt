pub mod TagRanges
